mod Counting
mod Goes
mod LineEnds
mod RaceEnd
mod Served
mod Sizes
mod Told
