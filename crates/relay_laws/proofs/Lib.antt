mod Prefixes
