-- What comes with a line is lawful.
use Rattle.std.proofs.Common.{◌≡◌, ℕ, ◌<◌, ◌^◌, true, List, [], ◌∷◌, ◌++◌, sym, subst}
use Rattle.std.specs.List.{AllByRecursion}
use Rattle.pump_frame.specs.Frames.{IsForm, IsLawful}
use Rattle.pump_frame.specs.Readings.{Reading, Within, Stopped}
use Rattle.pump_frame.specs.Streams.{IsStream}
use Rattle.pump_frame.specs.declared.frame.Frame.{Frame}
use Rattle.pump_frame.specs.declared.frame.Kind.{Kind}
use Rattle.pump_frame.specs.declared.frame.Kind.TheVariants as kinds
use Rattle.pump_core.specs.History.{Arrival}
use Rattle.pump_core.specs.Exchanges.{is_data}
use Rattle.script_reader.specs.Steps.{LineComing, came, bad_of, IsRead}
use Rattle.two_worlds.specs.Connections.{AreLawful}

pub all-append : (xs ys : List Arrival) → AreLawful xs → AreLawful ys → AreLawful (xs ++ ys)
all-append [] ys h k = k
all-append (x ∷ xs) ys h k = (h.0, all-append xs ys h.1 k)

number_by : (k : Kind) (n : ℕ) (bytes : List ℕ) → IsForm k n bytes → is_data k ≡ true → n < 2 ^ 48
number_by kinds.Data n bytes h e = h.0
number_by kinds.Hello n bytes h e = absurd (cc)
number_by kinds.Welcome n bytes h e = absurd (cc)
number_by kinds.Ack n bytes h e = absurd (cc)
number_by kinds.Refuse n bytes h e = absurd (cc)
number_by kinds.Attach n bytes h e = absurd (cc)
number_by kinds.Taken n bytes h e = absurd (cc)

frames_lawful : (fs : List Frame) → AllByRecursion IsLawful fs → AreLawful (came fs)
frames_lawful [] h = tt
frames_lawful (f ∷ fs) h = ((λ e. number_by f.kind f.number f.payload h.0.form e), frames_lawful fs h.1)

stream_lawful : (bytes : List ℕ) (fs : List Frame) (r : Reading) → IsStream bytes fs r → AllByRecursion IsLawful fs
stream_lawful bytes fs (Within held) h = h.0
stream_lawful bytes fs (Stopped at) h = h.0

bad_lawful : (r : Reading) → AreLawful (bad_of r)
bad_lawful (Within held) = tt
bad_lawful (Stopped at) = (tt, tt)

pub read_lawful : (r : Reading) (bytes : List ℕ) (c : LineComing) → IsRead r bytes c → AreLawful c.added
read_lawful (Within held) bytes c (fs, h, e) =
    subst AreLawful (sym e) (all-append (came fs) (bad_of c.reading) (frames_lawful fs (stream_lawful (held ++ bytes) fs c.reading h)) (bad_lawful c.reading))
read_lawful (Stopped at) bytes c e = subst (λ (t : LineComing). AreLawful t.added) (sym e) tt
