-- An assembly takes a message.
use Rattle.std.proofs.Common.{◌≡◌, ◌↔◌, ℕ, ◌+◌, nat_le, ◌==◌, Bool, true, false, if◌then◌else◌, List, [], ◌∷◌, length, refl, sym, subst}
use Rattle.file_messages.specs.Messages.{Message, Start, Piece, End, Abandon, Other, message_of}
use Rattle.file_messages.specs.Files.{File, State, Between, Inside, is_whole, given}
use Rattle.file_messages.specs.Assemblies.{StandsFor, TakesMessage, dropped, answer}
use Rattle.file_messages.specs.declared.assembly.Assembly.{Assembly}
use Rattle.file_messages.specs.declared.assembly.Cause.{Cause}
use Rattle.file_messages.specs.declared.assembly.Cause.TheVariants.{Abandoned, Digest, TooLong, TooShort, Unknown}
use Rattle.file_messages.specs.declared.assembly.Step.{Step}
use Rattle.file_messages.specs.declared.assembly.Step.TheVariants.{Grown, Whole, Dropped}

-- the same message under another name
pub takes_same : (old new : Assembly) (m n : Message) (result : Step) → m ≡ n → TakesMessage old new n result → TakesMessage old new m result
takes_same old new m n result e h = subst (λ (k : Message). TakesMessage old new k result) (sym e) h

-- the file that has begun is dropped
abbrev pub Leaves : Assembly → Assembly → Cause → Step → Type 0
Leaves old new cause result = (state : State) → StandsFor old state → StandsFor new Between × (result ≡ dropped state cause)

pub takes_abandon : (old new : Assembly) (result : Step) → Leaves old new Abandoned result → TakesMessage old new Abandon result
takes_abandon old new result h Between stands = h Between stands
takes_abandon old new result h (Inside name size bytes) stands = h (Inside name size bytes) stands

pub takes_other : (old new : Assembly) (result : Step) → Leaves old new Unknown result → TakesMessage old new Other result
takes_other old new result h Between stands = h Between stands
takes_other old new result h (Inside name size bytes) stands = h (Inside name size bytes) stands

pub nothing_other : message_of [] ≡ Other
unfolding message_of
nothing_other = refl

end_given : (name : List ℕ) (size : ℕ) (bytes : List ℕ) (whole same : Bool)
    → ((if whole then Whole else if same then Dropped Digest else Dropped TooShort) ≡ Whole)
    ↔ ((file : File) × ((if whole then record { name = name; bytes = bytes } ∷ [] else []) ≡ file ∷ []))
end_given name size bytes true same = (λ e. (record { name = name; bytes = bytes }, refl), λ e. refl)
end_given name size bytes false true = (λ e. absurd (cc e), λ (f, e). absurd (cc e))
end_given name size bytes false false = (λ e. absurd (cc e), λ (f, e). absurd (cc e))

piece_given : (grows : Bool) → ((if grows then Grown else Dropped TooLong) ≡ Whole) ↔ ((file : File) × ([] ≡ file ∷ []))
piece_given true = (λ e. absurd (cc e), λ (f, e). absurd (cc e))
piece_given false = (λ e. absurd (cc e), λ (f, e). absurd (cc e))

pub whole_given : (state : State) (message : Message) → (answer state message ≡ Whole) ↔ ((file : File) × (given state message ≡ file ∷ []))
whole_given (Inside name size bytes) (End digest) = end_given name size bytes (is_whole size bytes digest) (length bytes == size)
whole_given (Inside name size bytes) (Piece piece) = piece_given (nat_le (length bytes + length piece) size)
whole_given (Inside name size bytes) (Start name' size') = (λ e. absurd (cc e), λ (f, e). absurd (cc e))
whole_given (Inside name size bytes) Abandon = (λ e. absurd (cc e), λ (f, e). absurd (cc e))
whole_given (Inside name size bytes) Other = (λ e. absurd (cc e), λ (f, e). absurd (cc e))
whole_given Between (Start name size) = (λ e. absurd (cc e), λ (f, e). absurd (cc e))
whole_given Between (Piece piece) = (λ e. absurd (cc e), λ (f, e). absurd (cc e))
whole_given Between (End digest) = (λ e. absurd (cc e), λ (f, e). absurd (cc e))
whole_given Between Abandon = (λ e. absurd (cc e), λ (f, e). absurd (cc e))
whole_given Between Other = (λ e. absurd (cc e), λ (f, e). absurd (cc e))
