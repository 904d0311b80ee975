-- What one call of the reader of lines answers.
use Rattle.std.proofs.Common.{◌≡◌, ℕ, ◌+◌, ◌-◌, ◌^◌, ◌≤◌, ◌≢◌, ◌⊎◌, inl, inr, min, List, [], ◌∷◌, Option, Some, length, take, drop, refl, sym, ap, ◌∙◌, arith, length-append}
use Rattle.std.specs.List.{position}
use Rattle.std.specs.Io.KnownBytes.{Keeps, IsAtEnd}
use Rattle.script_reader.specs.declared.line.Line.{Line}
use Rattle.script_reader.specs.declared.lines.Lined.{Lined}
use Rattle.script_reader.specs.declared.lines.Lined.TheVariants as lined
use Rattle.script_reader.specs.Lines.{LineReading, to_come, is_end, IsUnended, IsNextLine}
use Rattle.script_reader.specs.Prefixes.{IsFirst}
use Rattle.script_reader.proofs.LineEnds.{ended, ended_some, bad_line, line_come, bad_come, some_come, bad_last, end_come}

line_next : (old now new : LineReading) (left rest : Option (List ℕ)) (line : Line) (len : ℕ)
    → Keeps (to_come old left) (to_come now rest) → now.number ≡ old.number → length now.held ≤ 4096 → position is_end now.held ≡ Some len
    → IsFirst now new len (lined.Line line) → IsNextLine old new left rest (lined.Line line)
line_next old now new left rest line len keeps same short at f =
    let p = ended now.held len at in
    let bytes = take len now.held in
    let behind = drop (len + 1) now.held in
    rw (f.1) (
      bytes,
      p.0,
      f.0,
      line_come (to_come old left) rest now.held bytes behind keeps p.1,
      ap (λ n. n + 1) same,
      omega (arith, short, ap length p.1, length-append bytes (10 ∷ behind)),
    )

bad_next : (old now new : LineReading) (left rest : Option (List ℕ)) (len : ℕ)
    → Keeps (to_come old left) (to_come now rest) → now.number ≡ old.number → length now.held ≤ 4096 → position is_end now.held ≡ Some len
    → IsFirst now new len lined.Bad → IsNextLine old new left rest lined.Bad
bad_next old now new left rest len keeps same short at f =
    let p = ended now.held len at in
    rw (f.1) (
      keeps,
      elim f.0 [
        | inl bad ↦ inl (bad_come (to_come old left) rest now.held keeps (λ more. bad_line now.held (take len now.held) (drop (len + 1) now.held) more p.1 p.0 bad))
        | inr e ↦ inr (sym same ∙ e, some_come (to_come old left) rest now.held keeps (ended_some now.held len at))
      ],
      rw same refl,
      short,
    )

-- the first line of what is held is the next
pub first_next : (old now new : LineReading) (left rest : Option (List ℕ)) (len : ℕ) (result : Lined)
    → Keeps (to_come old left) (to_come now rest) → now.number ≡ old.number → length now.held ≤ 4096 → position is_end now.held ≡ Some len
    → IsFirst now new len result → IsNextLine old new left rest result
first_next old now new left rest len (lined.Line line) keeps same short at f = line_next old now new left rest line len keeps same short at f
first_next old now new left rest len lined.Bad keeps same short at f = bad_next old now new left rest len keeps same short at f
first_next old now new left rest len lined.End keeps same short at f = absurd f
first_next old now new left rest len lined.Failed keeps same short at f = absurd f

pub is_empty : (xs : List ℕ) → (xs ≡ []) ⊎ (xs ≢ [])
is_empty [] = inl refl
is_empty (x ∷ xs) = inr (λ e. cc)

pub last_next : (old now new : LineReading) (left rest : Option (List ℕ)) (result : Lined)
    → Keeps (to_come old left) (to_come now rest) → now.number ≡ old.number → IsAtEnd rest → IsUnended now.held → length now.held ≤ 4096
    → (now.held ≡ [] → (result ≡ lined.End) × (new ≡ now)) → (now.held ≢ [] → (result ≡ lined.Bad) × (new ≡ record { held = now.held; number = min (now.number + 1) (2 ^ 32 - 1) }))
    → IsNextLine old new left rest result
last_next old now new left rest result keeps same end unended short none some =
    elim (is_empty now.held) [
      | inl e ↦ rw ((none e).0, (none e).1) (keeps, end_come (to_come old left) rest now.held keeps end e, same)
      | inr e ↦ rw ((some e).0, (some e).1) (keeps, inl (bad_last (to_come old left) rest now.held keeps end unended e), rw same refl, short)
    ]
