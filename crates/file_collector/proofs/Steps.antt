-- From which state and by which message an assembly comes to its answer.
use Rattle.std.proofs.Common.{◌≡◌, ◌⊎◌, inl, inr, ℕ, ◌+◌, ◌^◌, nat_le, nat_lt, ◌==◌, slice_index, ◌&&◌, Bool, true, false, if◌then◌else◌, List, [], ◌∷◌, ◌++◌, length, drop, Some, refl, sym, ap, subst}
use Rattle.std.proofs.lemmas.Bool.{and_parts, eqb-true}
use Rattle.std.proofs.lemmas.Slice.Eq.{bytes_eq-Decides}
use Rattle.byteorder.specs.Endian.{big_number}
use Rattle.file_messages.specs.FileNames.{is_file_name}
use Rattle.sha2.specs.Sha256.{sha256}
use Rattle.file_messages.specs.Messages.{Message, Start, Piece, End, Abandon, Other, start_of, message_of}
use Rattle.file_messages.specs.Files.{File, State, Between, Inside, is_whole, after, given}
use Rattle.file_messages.specs.Assemblies.{answer, progress_of}
use Rattle.file_messages.specs.declared.assembly.Progress.{Progress}
use Rattle.file_messages.specs.declared.assembly.Cause.{Cause}
use Rattle.file_messages.specs.declared.assembly.Step.{Step}
use Rattle.file_messages.specs.declared.assembly.Step.TheVariants.{Started, Grown, Whole, Dropped}
use Rattle.file_messages.specs.declared.assembly.Cause.TheVariants.{TooLong, TooShort, Digest}

-- an answer to bytes, and one to an end
abbrev by_room : Bool → Step
by_room b = if b then Grown else Dropped TooLong

abbrev by_end : Bool → Bool → Step
by_end whole same = if whole then Whole else if same then Dropped Digest else Dropped TooShort

no_start_room : (b : Bool) → by_room b ≡ Started → ⊥
no_start_room true e = absurd (cc e)
no_start_room false e = absurd (cc e)

no_start_end : (a b : Bool) → by_end a b ≡ Started → ⊥
no_start_end true b e = absurd (cc e)
no_start_end false true e = absurd (cc e)
no_start_end false false e = absurd (cc e)

pub begins : (state : State) (m : Message) → answer state m ≡ Started → (name : List ℕ) × (size : ℕ) × (state ≡ Between) × (m ≡ Start name size)
begins Between (Start name size) e = (name, size, refl, refl)
begins Between (Piece p) e = absurd (cc e)
begins Between (End d) e = absurd (cc e)
begins Between Abandon e = absurd (cc e)
begins Between Other e = absurd (cc e)
begins (Inside n z b) (Start name size) e = absurd (cc e)
begins (Inside n z b) (Piece p) e = absurd (no_start_room (nat_le (length b + length p) z) e)
begins (Inside n z b) (End d) e = absurd (no_start_end (is_whole z b d) (length b == z) e)
begins (Inside n z b) Abandon e = absurd (cc e)
begins (Inside n z b) Other e = absurd (cc e)

room_grows : (b : Bool) → by_room b ≡ Grown → b ≡ true
room_grows true e = refl
room_grows false e = absurd (cc e)

no_grown_end : (a b : Bool) → by_end a b ≡ Grown → ⊥
no_grown_end true b e = absurd (cc e)
no_grown_end false true e = absurd (cc e)
no_grown_end false false e = absurd (cc e)

pub record Grows (state : State) (m : Message) : Type 0 where
  pub name : List ℕ
  pub size : ℕ
  pub bytes : List ℕ
  pub piece : List ℕ
  pub was : state ≡ Inside name size bytes
  pub message : m ≡ Piece piece
  pub fits : nat_le (length bytes + length piece) size ≡ true

pub grows : (state : State) (m : Message) → answer state m ≡ Grown → Grows state m
grows Between (Start name size) e = absurd (cc e)
grows Between (Piece p) e = absurd (cc e)
grows Between (End d) e = absurd (cc e)
grows Between Abandon e = absurd (cc e)
grows Between Other e = absurd (cc e)
grows (Inside n z b) (Start name size) e = absurd (cc e)
grows (Inside n z b) (Piece p) e = record { name = n; size = z; bytes = b; piece = p; was = refl; message = refl; fits = room_grows (nat_le (length b + length p) z) e }
grows (Inside n z b) (End d) e = absurd (no_grown_end (is_whole z b d) (length b == z) e)
grows (Inside n z b) Abandon e = absurd (cc e)
grows (Inside n z b) Other e = absurd (cc e)

no_whole_room : (b : Bool) → by_room b ≡ Whole → ⊥
no_whole_room true e = absurd (cc e)
no_whole_room false e = absurd (cc e)

end_whole : (a b : Bool) → by_end a b ≡ Whole → a ≡ true
end_whole true b e = refl
end_whole false true e = absurd (cc e)
end_whole false false e = absurd (cc e)

pub record Completes (state : State) (m : Message) : Type 0 where
  pub name : List ℕ
  pub size : ℕ
  pub bytes : List ℕ
  pub was : state ≡ Inside name size bytes
  pub message : m ≡ End (sha256 bytes)
  pub all : length bytes ≡ size
  pub whole : is_whole size bytes (sha256 bytes) ≡ true

completed : (n : List ℕ) (z : ℕ) (b d : List ℕ) → is_whole z b d ≡ true → Completes (Inside n z b) (End d)
completed n z b d e =
    let tests = and_parts _ _ e in
    let same : d ≡ sha256 b = (bytes_eq-Decides d (sha256 b)).0 tests.1 in
    record { name = n; size = z; bytes = b; was = refl; message = ap End same; all = eqb-true (length b) z tests.0; whole = subst (λ (k : List ℕ). is_whole z b k ≡ true) same e }

pub completes : (state : State) (m : Message) → answer state m ≡ Whole → Completes state m
completes Between (Start name size) e = absurd (cc e)
completes Between (Piece p) e = absurd (cc e)
completes Between (End d) e = absurd (cc e)
completes Between Abandon e = absurd (cc e)
completes Between Other e = absurd (cc e)
completes (Inside n z b) (Start name size) e = absurd (cc e)
completes (Inside n z b) (Piece p) e = absurd (no_whole_room (nat_le (length b + length p) z) e)
completes (Inside n z b) (End d) e = completed n z b d (end_whole (is_whole z b d) (length b == z) e)
completes (Inside n z b) Abandon e = absurd (cc e)
completes (Inside n z b) Other e = absurd (cc e)

-- a start is no bytes
no_piece_if : (b : Bool) (name : List ℕ) (size : ℕ) (piece : List ℕ) → (if b then Start name size else Other) ≡ Piece piece → ⊥
no_piece_if true name size piece e = absurd (cc e)
no_piece_if false name size piece e = absurd (cc e)

no_piece_start : (rest piece : List ℕ) → start_of rest ≡ Piece piece → ⊥
unfolding start_of
no_piece_start rest piece e =
    no_piece_if ((slice_index rest 0 == 1) && (nat_lt (big_number 8 (drop 1 rest)) (2 ^ 48) && is_file_name (drop 9 rest))) (drop 9 rest) (big_number 8 (drop 1 rest)) piece e

-- a message of bytes is a byte 0 and these
piece_by : (kind : ℕ) (rest piece : List ℕ) (p s e a : Bool) → ((kind == 0) && nat_lt 0 (length rest)) ≡ p
    → (if p then Piece rest else if s then start_of rest else if e then End rest else if a then Abandon else Other) ≡ Piece piece → kind ∷ rest ≡ 0 ∷ piece
piece_by kind rest piece true s e a test is =
    let tests = and_parts _ _ test in
    let zero : kind ≡ 0 = eqb-true kind 0 tests.0 in
    let same : rest ≡ piece = cc is in λ i. zero i ∷ same i
piece_by kind rest piece false true e a test is = absurd (no_piece_start rest piece is)
piece_by kind rest piece false false true a test is = absurd (cc is)
piece_by kind rest piece false false false true test is = absurd (cc is)
piece_by kind rest piece false false false false test is = absurd (cc is)

pub piece_bytes : (message piece : List ℕ) → message_of message ≡ Piece piece → message ≡ 0 ∷ piece
unfolding message_of
piece_bytes [] piece is = absurd (cc is)
piece_bytes (kind ∷ rest) piece is =
    piece_by kind rest piece ((kind == 0) && nat_lt 0 (length rest)) (kind == 2) (kind == 3) ((kind == 4) && (length rest == 0)) refl is

-- the file that has begun is dropped
pub record Drops (state : State) (m : Message) (p : Progress) : Type 0 where
  pub size : ℕ
  pub bytes : List ℕ
  pub was : state ≡ Inside p.name size bytes
  pub now : after state m ≡ Between
  pub none : given state m ≡ []

room_drops : (n : List ℕ) (z : ℕ) (b piece : List ℕ) (cause : Cause) (room : Bool) → by_room room ≡ Dropped cause → (if room then Inside n z (b ++ piece) else Between) ≡ Between
room_drops n z b piece cause true e = absurd (cc e)
room_drops n z b piece cause false e = refl

end_drops : (one : List File) (cause : Cause) (whole same : Bool) → by_end whole same ≡ Dropped cause → (if whole then one else []) ≡ []
end_drops one cause true same e = absurd (cc e)
end_drops one cause false same e = refl

dropping : (n : List ℕ) (z : ℕ) (b : List ℕ) (m : Message) (cause : Cause) → answer (Inside n z b) m ≡ Dropped cause → (after (Inside n z b) m ≡ Between) × (given (Inside n z b) m ≡ [])
dropping n z b (Start name size) cause e = (refl, refl)
dropping n z b (Piece p) cause e = (room_drops n z b p cause (nat_le (length b + length p) z) e, refl)
dropping n z b (End d) cause e = (refl, end_drops (record { name = n; bytes = b } ∷ []) cause (is_whole z b d) (length b == z) e)
dropping n z b Abandon cause e = (refl, refl)
dropping n z b Other cause e = (refl, refl)

some_is : {X : Type 0} (a b : X) → Some a ≡ Some b → a ≡ b
some_is a b e = cc e

pub drops : (state : State) (m : Message) (cause : Cause) (p : Progress) → progress_of state ≡ Some p → answer state m ≡ Dropped cause → Drops state m p
drops Between m cause p of e = absurd (cc of)
drops (Inside n z b) m cause p of e =
    let both = dropping n z b m cause e in
    let named : n ≡ p.name = ap (λ (q : Progress). q.name) (some_is _ _ of) in
    record { size = z; bytes = b; was = ap (λ (k : List ℕ). Inside k z b) named; now = both.0; none = both.1 }

-- a message that is not answered as the end of a whole file gives none
no_end_file : (one : List File) (s : Step) (whole same : Bool) → by_end whole same ≡ s → (s ≡ Whole → ⊥) → (if whole then one else []) ≡ []
no_end_file one s true same e other = absurd (other (sym e))
no_end_file one s false same e other = refl

pub none_given : (state : State) (m : Message) (s : Step) → answer state m ≡ s → (s ≡ Whole → ⊥) → given state m ≡ []
none_given Between m s e other = refl
none_given (Inside n z b) (Start name size) s e other = refl
none_given (Inside n z b) (Piece p) s e other = refl
none_given (Inside n z b) (End d) s e other = no_end_file (record { name = n; bytes = b } ∷ []) s (is_whole z b d) (length b == z) e other
none_given (Inside n z b) Abandon s e other = refl
none_given (Inside n z b) Other s e other = refl

empty_or : (a b : List File) (f : File) → a ≡ [] → a ≡ f ∷ [] → ⊥
empty_or a b f none some = absurd (cc (none, some))

pub no_file : (state : State) (m : Message) (s : Step) → answer state m ≡ s → (s ≡ Whole → ⊥) → (file : File) → given state m ≡ file ∷ [] → ⊥
no_file state m s e other file gives = empty_or (given state m) [] file (none_given state m s e other) gives

-- a message gives one file, or none
one_or_none : (f : File) (whole : Bool) → ((if whole then f ∷ [] else []) ≡ []) ⊎ ((file : File) × ((if whole then f ∷ [] else []) ≡ file ∷ []))
one_or_none f true = inr (f, refl)
one_or_none f false = inl refl

pub cases_given : (state : State) (m : Message) → (given state m ≡ []) ⊎ ((file : File) × (given state m ≡ file ∷ []))
cases_given Between m = inl refl
cases_given (Inside n z b) (Start name size) = inl refl
cases_given (Inside n z b) (Piece p) = inl refl
cases_given (Inside n z b) (End d) = one_or_none (record { name = n; bytes = b }) (is_whole z b d)
cases_given (Inside n z b) Abandon = inl refl
cases_given (Inside n z b) Other = inl refl

end_gives : (one : List File) (whole same : Bool) → by_end whole same ≡ Whole → (if whole then one else []) ≡ one
end_gives one true same e = refl
end_gives one false true e = absurd (cc e)
end_gives one false false e = absurd (cc e)

pub whole_gives : (n : List ℕ) (z : ℕ) (b : List ℕ) (m : Message) → answer (Inside n z b) m ≡ Whole → given (Inside n z b) m ≡ record { name = n; bytes = b } ∷ []
whole_gives n z b (End d) e = end_gives (record { name = n; bytes = b } ∷ []) (is_whole z b d) (length b == z) e
whole_gives n z b (Start name size) e = absurd (cc e)
whole_gives n z b (Piece p) e = absurd (no_whole_room (nat_le (length b + length p) z) e)
whole_gives n z b Abandon e = absurd (cc e)
whole_gives n z b Other e = absurd (cc e)
