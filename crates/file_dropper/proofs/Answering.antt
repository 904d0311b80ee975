-- A message is acknowledged.
use Rattle.std.proofs.Common.{◌≡◌, ◌∙◌, ℕ, ◌+◌, false, if◌then◌else◌, List, Option, None, Some, ◌++◌, length, sym, ap, subst, arith, refl}
use Rattle.folders.specs.Outboxes.{Dropping, files_in}
use Rattle.file_messages.specs.Files.{Between, files, state_after}
use Rattle.file_dropper.specs.Leaving.{Fits, Leaves}
use Rattle.file_dropper.specs.Works.{IsLawfulWork, IsLawfulSent, IsWorkOf, IsAsking, HasBegun, MayAsk, MayAnswer, IsMarked, mark_of, ended_in, GoesOn, HasSent, bytes_of, StandsBehind}
use Rattle.file_dropper.specs.declared.dropper.Dropper.{Dropper}
use Rattle.file_dropper.specs.declared.work.Sent.{Sent}
use Rattle.file_dropper.specs.declared.work.Work.{Work}
use Rattle.file_dropper.specs.declared.work.Work.TheVariants.{Unsettled, GivingUp, Free, Sending, Ended, Failed}
use Rattle.file_dropper.proofs.Outside.{leaves_none}
use Rattle.file_dropper.proofs.Resuming.{gives_sent}
use Rattle.file_dropper.proofs.Steps.{marked_sent_fits}

goes_on : {F : Type 0} (message number : ℕ) (work : Work F) → IsLawfulWork message number work → HasBegun work → ended_in work ≡ None → IsLawfulWork message (number + 1) work × IsAsking work
goes_on message number Unsettled lawful begun none = absurd lawful
goes_on message number (GivingUp name) lawful begun none = (tt, tt)
goes_on message number (Free name) lawful begun none = (tt, tt)
goes_on message number (Sending sender) lawful begun none = (
  record {
    sent = record { name = lawful.sent.name; size = lawful.sent.size; start = omega (arith, lawful.sent.start); first = lawful.sent.first };
    may = lawful.may;
    fits = lawful.fits;
    first = λ off. absurd (let bad = sym begun ∙ off in cc);
  },
  tt,
)
goes_on message number (Ended sent) lawful begun none = absurd (cc)
goes_on message number (Failed reading) lawful begun none = absurd lawful

module _ {O F : Type 0} (m : Dropping O) (d : Dropper O F) (may : MayAnswer m d) where
  pub asks_again : (number : ℕ) → number ≡ d.number → ended_in d.work ≡ None → MayAsk m (record d { number = number + 1; awaited = false })
  asks_again number is none =
      let on = goes_on d.message d.number d.work may.on.work may.begun none in
      record {
        on = record {
          least = may.on.least;
          greatest = may.on.greatest;
          work = subst (λ k. IsLawfulWork d.message (k + 1) d.work) (sym is) on.0;
          marked = may.on.marked;
        };
        asking = on.1;
        not_awaited = refl;
      }

  ended_is : (work : Work F) (sent : Sent) → ended_in work ≡ Some sent → work ≡ Ended sent
  ended_is Unsettled sent is = cc
  ended_is (GivingUp name) sent is = cc
  ended_is (Free name) sent is = cc
  ended_is (Sending sender) sent is = cc
  ended_is (Ended other) sent is = cc
  ended_is (Failed reading) sent is = cc

  module _ (sent : Sent) (ended : ended_in d.work ≡ Some sent) where
    work_is : d.work ≡ Ended sent
    work_is = ended_is d.work sent ended

    pub ended_marked : m.tells → IsMarked (mark_of d.message sent) (m.stands d.outbox).marked
    ended_marked tells = subst (λ (w : Work F). IsWorkOf d.message w (m.stands d.outbox).marked) work_is (may.on.marked tells)

    lawful : IsLawfulSent d.number sent
    lawful = subst (λ (w : Work F). IsLawfulWork d.message d.number w) work_is may.on.work

    module _ (tells : m.tells) (left : F → Option (List ℕ)) (accepted : List (List ℕ)) (stands : StandsBehind m left d accepted) where
      has : HasSent d.message sent (bytes_of (m.stands d.outbox).marked) (m.stands d.outbox).removed accepted
      has = subst (λ (w : Work F). GoesOn d.message left w (m.stands d.outbox) accepted) work_is stands.work

      pub ended_fits : Fits accepted (m.stands d.outbox)
      ended_fits = marked_sent_fits d.message sent d.number (m.stands d.outbox).marked (m.stands d.outbox).removed accepted may.on.least lawful (ended_marked tells) has

      pub ended_gives : (files accepted ≡ (m.stands d.outbox).removed ++ files_in (m.stands d.outbox).marked) × (state_after Between accepted ≡ Between)
      ended_gives = gives_sent d.message sent (m.stands d.outbox).removed accepted d.number (m.stands d.outbox).marked may.on.least lawful (ended_marked tells) has

  pub counted_on : (left : F → Option (List ℕ)) (accepted : List (List ℕ)) (number : ℕ) → number ≡ d.number → StandsBehind m left d accepted → number + 1 ≡ length accepted
  counted_on left accepted number is stands = ap (λ k. k + 1) is ∙ sym (ap (λ b. if b then d.number + 1 else d.number) may.awaited) ∙ stands.count

  -- it was not the end of a file
  pub stands_again : (tells : m.tells) (left : F → Option (List ℕ)) (accepted : List (List ℕ)) (number : ℕ) → number ≡ d.number → StandsBehind m left d accepted
      → Leaves m accepted d.outbox d.outbox × StandsBehind m left (record d { number = number + 1; awaited = false }) accepted
  stands_again tells left accepted number is stands = (
    leaves_none m tells accepted d.outbox,
    record {
      count = counted_on left accepted number is stands;
      settled = stands.settled;
      work = stands.work;
    },
  )
