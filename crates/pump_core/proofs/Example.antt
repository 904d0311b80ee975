-- A run that there is: a HELLO, a message that is stored, passed on and acknowledged.
use Rattle.std.proofs.Common.{ℕ, false, List, [], ◌∷◌, Some, None, refl, arith}
use Rattle.pump_frame.specs.Averages.{down}
use Rattle.pump_frame.specs.declared.row.SessionRow.{SessionRow}
use Rattle.pump_frame.specs.declared.frame.Frame.{Frame}
use Rattle.pump_frame.specs.declared.frame.Kind.TheVariants.{Hello, Data}
use Rattle.pump_core.specs.declared.feedback.Feedback.TheVariants.{Quiet, Passed}
use Rattle.pump_core.specs.History.{Nothing, Came, Look, Life, History}
use Rattle.pump_core.specs.Exchanges.{Waiting, Over, Answer, Offering, Delivery, IsCut}
use Rattle.pump_core.specs.Replies.{welcome, acknowledgement, LowReplies}
use Rattle.pump_core.specs.declared.event.Event.TheVariants.{StoreBegin, StoreEnd, Forward, Acknowledge}
use Rattle.pump_core.specs.World.{World, empty}
use Rattle.pump_core.specs.Events.{Empty, stored}
use Rattle.pump_core.specs.Timed.{Step, Arrives, LowLook, Offer, Read, Occurs, Point, opening_in, high_from, look_begun, LeadsTo}
use Rattle.pump_core.specs.Comings.{Whole, Comes, Looks, Timed}
use Rattle.pump_core.specs.Runs.{IsRun}

abbrev row : SessionRow
row = record {
  id = 1;
  low = 97 ∷ [];
  high = 98 ∷ [];
  capacity = 3;
  message = 16;
  window = 1;
  start = 5;
  longest = 100;
  resend = 50;
  low_port = 0;
  high_port = 0;
  coarse = false;
}

abbrev payload : List ℕ
payload = 7 ∷ []

abbrev hello : Frame
hello = record { kind = Hello; session = 1; number = 0; payload = 97 ∷ 58 ∷ 98 ∷ [] }

abbrev message : Frame
message = record { kind = Data; session = 1; number = 0; payload = payload }

-- ---- the worlds ----

abbrev storing : World
storing = record (empty 3) { storing = Some payload }

abbrev passed : World
passed = record (stored storing payload) { held = 0 ∷ []; low_hand = None }

abbrev done : World
done = record passed { acknowledged = 0 ∷ [] }

-- ---- the history ----

abbrev x₁ : Look
x₁ = record { moment = 10; word = 0; arrival = Came hello; is_fault = false; feedback = Quiet }

abbrev x₂ : Look
x₂ = record { moment = 20; word = 0; arrival = Came message; is_fault = false; feedback = Quiet }

abbrev x₃ : Look
x₃ = record { moment = 30; word = 0; arrival = Nothing; is_fault = false; feedback = Passed (record { count = 0; average = 5 }) }

abbrev x₄ : Look
x₄ = record { moment = 40; word = 0; arrival = Nothing; is_fault = false; feedback = Quiet }

abbrev life : List Look → Life
life looks = record { opening = opening_in (empty 3); looks = looks }

abbrev history : History
history = record { life = life (x₄ ∷ x₃ ∷ x₂ ∷ x₁ ∷ []); earlier = [] }

-- ---- its cuts ----

cut₀ : IsCut row (life []) []
cut₀ = record { are_parts = tt; looks = refl }

cut₁ : IsCut row (life (x₁ ∷ [])) (Answer x₁ ∷ [])
cut₁ = record { are_parts = (record { part = ((refl, refl), refl); release = refl }, tt, tt); looks = refl }

cut₂ : IsCut row (life (x₂ ∷ x₁ ∷ [])) (Offering x₂ [] ∷ Answer x₁ ∷ [])
cut₂ = record { are_parts = (record { part = (record { next = refl; outcome = refl; quiet = refl }, tt); release = refl }, cut₁.are_parts, (refl, tt)); looks = refl }

cut₃ : IsCut row (life (x₃ ∷ x₂ ∷ x₁ ∷ [])) (Delivery x₂ [] x₃ (Waiting []) ∷ Answer x₁ ∷ [])
cut₃ = record { are_parts = (record { part = (record { next = refl; outcome = refl; quiet = refl }, tt, record { passed = refl; stays = refl }, tt); release = refl }, cut₁.are_parts, (refl, tt)); looks = refl }

cut₄ : IsCut row (life (x₄ ∷ x₃ ∷ x₂ ∷ x₁ ∷ [])) (Delivery x₂ [] x₃ (Over [] x₄) ∷ Answer x₁ ∷ [])
cut₄ = record { are_parts = (record { part = (record { next = refl; outcome = refl; quiet = refl }, tt, record { passed = refl; stays = refl }, (tt, refl, refl)); release = refl }, cut₁.are_parts, (refl, tt)); looks = refl }

pub replies : LowReplies row history (record { moment = 10; reply = welcome row 0 } ∷ record { moment = 40; reply = acknowledgement row 0 } ∷ [])
replies = ([], record { moment = 10; reply = welcome row 0 } ∷ record { moment = 40; reply = acknowledgement row 0 } ∷ [], refl, (Delivery x₂ [] x₃ (Over [] x₄) ∷ Answer x₁ ∷ [], cut₄, refl), refl)

-- ---- the run ----

abbrev point : World → List Timed → List (List Step) → Point
point w events stood = record {
  world = w;
  high = high_from 0;
  looked = 40;
  life = record { side = record { opening = opening_in (empty 3); events = events }; stood = stood };
  earlier = [];
}

abbrev e₁ : List Timed
e₁ = Looks (look_begun 10 0 false false) ∷ Comes (Whole hello) ∷ []

abbrev e₂ : List Timed
e₂ = Looks (look_begun 20 0 false false) ∷ Comes (Whole message) ∷ e₁

abbrev e₃ : List Timed
e₃ = Looks (record (look_begun 30 0 false false) { feedback = Passed (record { count = 0; average = 5 }) }) ∷ e₂

abbrev e₄ : List Timed
e₄ = Looks (look_begun 40 0 false false) ∷ e₃

abbrev s₂ : List Step
s₂ = Occurs (StoreBegin payload) ∷ Occurs StoreEnd ∷ []

abbrev s₃ : List Step
s₃ = Offer ∷ Occurs Forward ∷ Read ∷ []

abbrev s₄ : List Step
s₄ = Occurs (Acknowledge 0) ∷ []

abbrev steps : List Step
steps =
    Occurs (Acknowledge 0) ∷ LowLook 40 0 false false
    ∷ Read ∷ Occurs Forward ∷ Offer ∷ LowLook 30 0 false false
    ∷ Occurs StoreEnd ∷ Occurs (StoreBegin payload) ∷ LowLook 20 0 false false ∷ Arrives (Whole message)
    ∷ LowLook 10 0 false false ∷ Arrives (Whole hello) ∷ []

leads : LeadsTo row steps (point done e₄ (s₄ ∷ s₃ ∷ s₂ ∷ [] ∷ []))
unfolding down
leads = (
  _,
  (
    _,
    (
      _,
      (
        _,
        (
          _,
          (
            _,
            (
              _,
              (
                _,
                (
                  _,
                  (
                    _,
                    (
                      _,
                      (
                        _,
                        (empty 3, Empty 3 (omega arith) (omega arith), refl, refl),
                        refl,
                      ),
                      (omega arith, refl),
                    ),
                    refl,
                  ),
                  (omega arith, refl),
                ),
                (storing, (refl, refl, refl), tt, refl),
              ),
              (stored storing payload, (payload, refl, refl), tt, refl),
            ),
            (omega arith, refl),
          ),
          refl,
        ),
        (passed, (0, refl, omega arith, refl), tt, refl),
      ),
      refl,
    ),
    (omega arith, refl),
  ),
  (done, (omega arith, refl, refl, refl), tt, refl),
)

pub run : IsRun row steps (point done e₄ (s₄ ∷ s₃ ∷ s₂ ∷ [] ∷ [])) history
run = record {
  leads = leads;
  low = (
    refl,
    (
      2,
      (
        refl,
        2,
        record { before = Delivery x₂ [] x₃ (Waiting []) ∷ Answer x₁ ∷ []; cut = cut₃; arrival = λ g t. absurd (cc); count = refl },
        (
          refl,
          2,
          record { before = Offering x₂ [] ∷ Answer x₁ ∷ []; cut = cut₂; arrival = λ g t. absurd (cc); count = refl },
          (
            refl,
            1,
            record { before = Answer x₁ ∷ []; cut = cut₁; arrival = λ g t. refl; count = refl },
            (
              refl,
              0,
              record { before = []; cut = cut₀; arrival = λ g t. refl; count = refl },
              refl,
            ),
          ),
        ),
      ),
    ),
    tt,
  );
  feedback = refl;
  places = (
    (
      (Delivery x₂ [] x₃ (Over [] x₄) ∷ Answer x₁ ∷ [], cut₄, refl),
      (
        (Delivery x₂ [] x₃ (Waiting []) ∷ Answer x₁ ∷ [], cut₃, refl),
        (
          (Offering x₂ [] ∷ Answer x₁ ∷ [], cut₂, refl),
          ((Answer x₁ ∷ [], cut₁, refl), tt),
        ),
      ),
    ),
    tt,
  );
}
