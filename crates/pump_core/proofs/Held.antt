-- A run from full disks: the offer is Full, until the high side has removed a message.
use Rattle.std.proofs.Common.{ℕ, true, false, List, [], ◌∷◌, Some, None, refl, arith}
use Rattle.pump_frame.specs.declared.row.SessionRow.{SessionRow}
use Rattle.pump_core.specs.declared.feedback.Feedback.TheVariants.{Full, Released}
use Rattle.pump_core.specs.History.{Nothing, Look, Life, History}
use Rattle.pump_core.specs.Exchanges.{Holding, Release, IsCut}
use Rattle.pump_core.specs.Comings.{Looks, Timed}
use Rattle.pump_frame.specs.declared.frame.Item.{Item}
use Rattle.pump_core.specs.declared.event.Event.TheVariants.{Forward, TakeUp, Send, CarryData, TakeBegin, TakeEnd, ReturnTaken, RemoveBegin, RemoveEnd}
use Rattle.pump_core.specs.World.{World, opened}
use Rattle.pump_core.specs.Events.{Opened, took}
use Rattle.pump_core.specs.Sendings.{Sending}
use Rattle.pump_core.specs.Timed.{Step, LowLook, HighLook, Offer, Publish, Occurs, Point, opening_in, look_begun, LeadsTo}
use Rattle.pump_core.specs.Runs.{IsRun}

abbrev row : SessionRow
row = record {
  id = 1;
  low = 97 ∷ [];
  high = 98 ∷ [];
  capacity = 3;
  message = 16;
  window = 1;
  start = 5;
  longest = 100;
  resend = 50;
  low_port = 0;
  high_port = 0;
  coarse = false;
}

abbrev p : List ℕ
p = 7 ∷ []

abbrev packet : ℕ → Item
packet n = record { number = n; payload = p }

abbrev sending_at : ℕ → ℕ → Sending
sending_at number moment = record { number = number; moment = moment }

abbrev w₀ : World
w₀ = opened 3 0 [] (p ∷ p ∷ p ∷ [])

abbrev w₁ : World
w₁ = record w₀ { sent = packet 0 ∷ [] }

abbrev w₂ : World
w₂ = record w₁ { packet = Some p }

abbrev w₃ : World
w₃ = record w₂ { taking = true }

abbrev w₄ : World
w₄ = took w₃ p

abbrev w₅ : World
w₅ = record w₄ { due = true }

abbrev w₆ : World
w₆ = record w₅ { removing = true }

abbrev w₇ : World
w₇ = record w₆ { removed = 1; high_hand = None; due = false; removing = false }

abbrev w₈ : World
w₈ = record w₇ { held = []; high_hand = Some 1 }

abbrev w₉ : World
w₉ = record w₈ { sent = packet 0 ∷ packet 1 ∷ [] }

abbrev w₁₀ : World
w₁₀ = record w₉ { held = 2 ∷ []; low_hand = None }

abbrev x₁ : Look
x₁ = record { moment = 10; word = 0; arrival = Nothing; is_fault = false; feedback = Full }

abbrev x₂ : Look
x₂ = record { moment = 30; word = 0; arrival = Nothing; is_fault = false; feedback = Released }

abbrev life : List Look → Life
life looks = record { opening = record { count = 3; is_held = true }; looks = looks }

abbrev history : History
history = record { life = life (x₂ ∷ x₁ ∷ []); earlier = [] }

cut₀ : IsCut row (life []) []
cut₀ = record { are_parts = tt; looks = refl }

cut₁ : IsCut row (life (x₁ ∷ [])) (Holding x₁ [] ∷ [])
cut₁ = record { are_parts = (record { part = (refl, tt); release = refl }, tt, tt); looks = refl }

cut₂ : IsCut row (life (x₂ ∷ x₁ ∷ [])) (Release (x₁ ∷ []) x₂ ∷ [])
cut₂ = record { are_parts = (record { part = ((refl, tt), refl, refl); release = refl }, tt, tt); looks = refl }

abbrev events : List Timed
events =
    Looks (record (look_begun 30 0 false false) { feedback = Released })
    ∷ Looks (record (look_begun 10 0 false false) { feedback = Full }) ∷ []

abbrev stood : List (List Step)
stood = (Offer ∷ Occurs Forward ∷ []) ∷ (Offer ∷ []) ∷ []

abbrev point : Point
point = record {
  world = w₁₀;
  high = record { times = 8 ∷ []; sends = sending_at 1 20 ∷ sending_at 0 12 ∷ []; unpublished = None; looking = true; moment = 20 };
  looked = 30;
  life = record { side = record { opening = opening_in w₀; events = events }; stood = stood };
  earlier = [];
}

abbrev steps : List Step
steps =
    Occurs Forward ∷ Offer ∷ LowLook 30 0 false false
    ∷ Occurs Send ∷ Occurs TakeUp ∷ Publish ∷ Occurs RemoveEnd ∷ Occurs RemoveBegin ∷ Occurs (ReturnTaken 0) ∷ HighLook 20
    ∷ Occurs TakeEnd ∷ Occurs TakeBegin ∷ Occurs (CarryData 0)
    ∷ Occurs Send ∷ HighLook 12
    ∷ Offer ∷ LowLook 10 0 false false ∷ []

leads : LeadsTo row steps point
leads = (
  _,
  (
    _,
    (
      _,
      (
        _,
        (
          _,
          (
            _,
            (
              _,
              (
                _,
                (
                  _,
                  (
                    _,
                    (
                      _,
                      (
                        _,
                        (
                          _,
                          (
                            _,
                            (
                              _,
                              (
                                _,
                                (
                                  _,
                                  (w₀, Opened 3 0 [] (p ∷ p ∷ p ∷ []) (omega arith) (omega arith) (record { taken = omega arith; fits = omega arith }), refl, refl),
                                  (omega arith, refl),
                                ),
                                refl,
                              ),
                              (omega arith, refl, refl),
                            ),
                            (w₁, (0, p, refl, refl, refl, refl), refl, refl),
                          ),
                          (w₂, (packet 0, refl, refl, omega arith, refl), tt, refl),
                        ),
                        (w₃, (p, refl, refl, refl), tt, refl),
                      ),
                      (w₄, (p, refl, refl, refl), tt, refl),
                    ),
                    (omega arith, refl, refl),
                  ),
                  (w₅, (0, refl, refl, refl), refl, refl),
                ),
                (w₆, (refl, refl, refl), refl, refl),
              ),
              (w₇, (refl, refl), refl, refl),
            ),
            (8, refl, refl),
          ),
          (w₈, (1, [], refl, refl, refl), (refl, refl), refl),
        ),
        (w₉, (1, p, refl, refl, refl, refl), refl, refl),
      ),
      (omega arith, refl),
    ),
    refl,
  ),
  (w₁₀, (2, refl, omega arith, refl), tt, refl),
)

pub run : IsRun row steps point history
run = record {
  leads = leads;
  low = (
    refl,
    (
      0,
      (
        refl,
        0,
        record { before = Holding x₁ [] ∷ []; cut = cut₁; arrival = λ g t. absurd (cc); count = refl },
        (
          refl,
          0,
          record { before = []; cut = cut₀; arrival = λ g t. absurd (cc); count = refl },
          refl,
        ),
      ),
    ),
    tt,
  );
  feedback = refl;
  places = (((Release (x₁ ∷ []) x₂ ∷ [], cut₂, refl), ((Holding x₁ [] ∷ [], cut₁, refl), tt)), tt);
}
