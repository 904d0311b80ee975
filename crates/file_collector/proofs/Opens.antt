-- What a collector that opens has taken.
use Rattle.std.proofs.Common.{◌≡◌, ⊎_elim, ℕ, zero, suc, ◌+◌, ◌<◌, ◌≤◌, true, false, List, [], ◌∷◌, ◌++◌, length, take, get_or, Option, None, Some, refl, sym, ◌∙◌, ap, subst, arith}
use Rattle.std.proofs.lemmas.List.{length-take-le}
use Rattle.disk_model.specs.Disk.{Meaning}
use Rattle.file_messages.specs.Messages.{message_of}
use Rattle.file_messages.specs.Files.{State, Between, Inside, after, state_after, files}
use Rattle.file_messages.proofs.Taking.{whole_given}
use Rattle.folders.specs.Placing.{Placing, Part, Missing, Lying, Given, is_there, first_of}
use Rattle.file_collector.specs.Registers.{RegisterStands, IsKept}
use Rattle.file_collector.specs.Gathering.{IsWellBegun, PartStands}
use Rattle.file_collector.specs.Collecting.{published, HasTaken, taken_count}
use Rattle.file_collector.specs.Opening.{IsFoundAt, IsFoundWith, lying_part}
use Rattle.file_collector.specs.Reopening.{OpensOn, IsOpenedAs}
use Rattle.file_collector.specs.declared.collector.Collector.{Collector}
use Rattle.file_collector.specs.declared.opening.Found.{Found}
use Rattle.file_collector.proofs.Steps.{completes}
use Rattle.file_collector.proofs.Collects.{begun_after, state_next}

pub begun_all : (state : State) (messages : List (List ℕ)) → IsWellBegun state → IsWellBegun (state_after state messages)
begun_all state [] h = h
begun_all state (m ∷ ms) h = begun_all (after state (message_of m)) ms (begun_after state m h)

pub take_next : (messages : List (List ℕ)) (count : ℕ) → count < length messages → take (count + 1) messages ≡ take count messages ++ get_or messages count [] ∷ []
take_next [] count lt = absurd (omega (arith, lt))
take_next (m ∷ ms) zero lt = refl
take_next (m ∷ ms) (suc count) lt =
    let on : suc count + 1 ≡ suc (count + 1) = omega arith in
    ap (λ n. take n (m ∷ ms)) on ∙ ap (λ (l : List (List ℕ)). m ∷ l) (take_next ms count (omega (arith, lt)))

pub missing : (part : Part) → is_there part ≡ false → part ≡ Missing
missing Missing e = refl
missing (Lying bytes) e = absurd (cc e)
missing Given e = absurd (cc e)

abbrev opened : {I D : Type 0} → I → Found D → Collector I D
opened inbox found = record {
  gatherer = record { inbox = inbox; part = found.part; assembly = found.assembly };
  register = found.register;
  is_placed = false;
  is_open = true;
  lost = found.lost;
}

pub opened_as : {I D : Type 0} (mi : Placing I) (md : Meaning D) (inbox : I) (found : Found D) (count : ℕ) (state : State) (file : Option (List ℕ)) → IsFoundWith mi md inbox found count state file
    → IsOpenedAs mi md (record { gatherer = record { inbox = inbox; part = found.part; assembly = found.assembly }; register = found.register; is_placed = false; is_open = true; lost = found.lost }) count state file
opened_as mi md inbox found count state file is = record { gathering = is.gathering; kept = is.kept; lost = is.lost }

module _ {I D : Type 0} (mi : Placing I) (md : Meaning D) (old new : I) (found : Found D) (shown : mi.shown new ≡ mi.shown old) where
  at_count : (messages : List (List ℕ)) (count : ℕ) → count ≤ length messages → published (mi.shown old) ≡ files (take count messages) → IsFoundAt mi md new found count (state_after Between (take count messages))
      → (n : ℕ) → n ≤ count → HasTaken mi md (opened new found) (take (taken_count (opened new found)) messages) × (n ≤ taken_count (opened new found)) × (found.lost ≡ None)
  at_count messages count within are at n le =
      let first : found.register.first ≡ count = ap (λ (v : ℕ × ℕ). v.0) at.kept.value in
      let size : length (take count messages) ≡ count = length-take-le count messages within in (
        subst (λ k. HasTaken mi md (opened new found) (take k messages)) (sym first) (record {
          is_open = refl;
          counted = refl;
          gathering = at.gathering;
          kept = subst (λ k. IsKept md found.register k (state_after Between (take count messages))) (sym size) at.kept;
          shown = λ told tells. ap published shown ∙ are;
        }),
        omega (arith, first, le),
        at.lost,
      )

  pub opens_here : mi.tells → md.tells → (messages : List (List ℕ)) → (on : OpensOn mi old messages)
      → ((count : ℕ) (state : State) (bytes : List ℕ) → mi.register old ≡ Some bytes → RegisterStands count state bytes → IsWellBegun state → PartStands state (lying_part (mi.part old)) → IsFoundAt mi md new found count state)
      → ((count : ℕ) (name : List ℕ) (size : ℕ) (held bytes : List ℕ) → mi.register old ≡ Some bytes → RegisterStands count (Inside name size held) bytes → IsWellBegun (Inside name size held)
      → first_of (length held) (mi.part old) ≡ None → length held ≡ size → IsFoundAt mi md new found (count + 1) Between)
      → HasTaken mi md (opened new found) (take (taken_count (opened new found)) messages) × (on.fits.count ≤ taken_count (opened new found)) × (found.lost ≡ None)
  opens_here told tells messages on here ahead =
      let count = on.fits.count in
      let state = state_after Between (take count messages) in
      let begun = begun_all Between (take count messages) tt in
      ⊎_elim
      (λ is. at_count messages count on.fits.within is.are_shown (here count state on.bytes on.register on.fits.stands begun is.has_bytes) count (omega arith))
      (λ is.
      let message = get_or messages count [] in
      let w = completes state (message_of message) ((whole_given state (message_of message)).1 (is.file, is.gives)) in
      let stands : RegisterStands count (Inside w.name w.size w.bytes) on.bytes = subst (λ (s : State). RegisterStands count s on.bytes) w.was on.fits.stands in
      let next : state_after Between (take (count + 1) messages) ≡ Between =
      ap (λ (l : List (List ℕ)). state_after Between l) (take_next messages count is.more) ∙ state_next (take count messages) message ∙ (λ i. after (w.was i) (w.message i)) in
      at_count messages (count + 1) (omega (arith, is.more)) is.are_shown
      (subst (λ (s : State). IsFoundAt mi md new found (count + 1) s) (sym next)
      (ahead count w.name w.size w.bytes on.bytes on.register stands (subst IsWellBegun w.was begun) (ap (first_of (length w.bytes)) (missing (mi.part old) is.gone)) w.all)) count (omega arith))
      on.fits.either
