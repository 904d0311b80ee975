-- Messages that are passed over.
use Rattle.std.proofs.Common.{◌≡◌, ◌∙◌, ℕ, ◌+◌, true, false, if◌then◌else◌, List, [], ◌∷◌, ◌++◌, Option, length, refl, sym, ap, append_assoc, append-nil, length-append}
use Rattle.file_messages.specs.Messages.{start_message}
use Rattle.file_dropper.specs.Readings.{HasRead, Reads, still}
use Rattle.file_dropper.specs.Works.{Skips, still_of}
use Rattle.file_cutter.specs.declared.pieces.Cut.{Cut}
use Rattle.file_cutter.specs.declared.pieces.Cut.TheVariants.{Message, Done}
use Rattle.file_dropper.specs.declared.work.Sender.{Sender}
use Rattle.file_dropper.proofs.ReadingSteps.{read_more, read_end}

module _ {F : Type 0} (left : F → Option (List ℕ)) where
  pub begun : (s : Sender F) → s.started ≡ true → still_of left s ≡ still left s.reading
  begun s is = ap (λ b. if b then still left s.reading else start_message s.sent.name s.sent.size ∷ still left s.reading) is

  pub not_begun : (s : Sender F) → s.started ≡ false → still_of left s ≡ start_message s.sent.name s.sent.size ∷ still left s.reading
  not_begun s is = ap (λ b. if b then still left s.reading else start_message s.sent.name s.sent.size ∷ still left s.reading) is

  -- the start
  pub skips_start : (s : Sender F) (bytes read : List ℕ) → s.started ≡ false → HasRead left s.reading bytes read → Skips left s (record s { started = true }) bytes 1
  skips_start s bytes read is has = record { read = read; passed = start_message s.sent.name s.sent.size ∷ []; reading = has; parts = not_begun s is; count_is = refl }

  -- nothing
  pub skips_none : (s : Sender F) (bytes read : List ℕ) → HasRead left s.reading bytes read → Skips left s s bytes 0
  skips_none s bytes read has = record { read = read; passed = []; reading = has; parts = refl; count_is = refl }

  -- one more
  pub skips_more : (old mid new : Sender F) (bytes message : List ℕ) (count : ℕ) (cut : Cut) → Skips left old mid bytes count → mid.started ≡ true → new.started ≡ true
      → Reads left mid.reading new.reading message cut → cut ≡ Message → Skips left old new bytes (count + 1)
  skips_more old mid new bytes message count cut s was now reads is =
      let more = read_more left mid.reading new.reading message bytes s.read cut reads is s.reading in
      record {
        read = _;
        passed = s.passed ++ message ∷ [];
        reading = more.1;
        parts = s.parts ∙ ap (λ l. s.passed ++ l) (begun mid was ∙ more.2 ∙ ap (λ l. message ∷ l) (sym (begun new now))) ∙ sym (append_assoc s.passed (message ∷ []) (still_of left new));
        count_is = length-append s.passed (message ∷ []) ∙ ap (λ k. k + 1) s.count_is;
      }

  -- no more are there
  pub skips_all : (old mid : Sender F) (new : _) (bytes message : List ℕ) (count : ℕ) (cut : Cut) → Skips left old mid bytes count → mid.started ≡ true
      → Reads left mid.reading new message cut → cut ≡ Done → length (still_of left old) ≡ count
  skips_all old mid new bytes message count cut s was reads is =
      let no = read_end left mid.reading new message bytes s.read cut reads is s.reading in
      ap length (s.parts ∙ ap (λ l. s.passed ++ l) (begun mid was ∙ no.1) ∙ append-nil s.passed) ∙ s.count_is
