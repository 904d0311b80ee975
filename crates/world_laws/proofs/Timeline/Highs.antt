-- A high look of a script goes on with a timed run of its session.
use Rattle.std.proofs.Common.{◌≡◌, ℕ, ◌≤◌, Bool, List, [], ◌∷◌, ◌++◌, length, Option, Some, None, refl, sym, ap, ◌∙◌, subst, arith, length-append}
use Rattle.std.specs.Prelude.{nat_lt, option_to_list}
use Rattle.std.proofs.lemmas.Bool.{lt-ltb, le-ltb}
use Rattle.pump_frame.specs.declared.row.SessionRow.{SessionRow}
use Rattle.pump_core.specs.declared.event.Event.TheVariants.{TakeUp, Send, RemoveBegin, RemoveEnd}
use Rattle.pump_core.specs.World.{World}
use Rattle.pump_core.specs.History.{Arrival}
use Rattle.pump_core.specs.Comings.{comings}
use Rattle.pump_core.specs.HighLooks.{has_removed}
use Rattle.pump_core.specs.Sendings.{Sending}
use Rattle.pump_core.specs.Timed.{Step, HighLook, Publish, Occurs, Point, high_looking, LeadsTo}
use Rattle.script_reader.specs.declared.event.Event.{Event}
use Rattle.script_reader.specs.Past.{Past}
use Rattle.script_reader.specs.Highs.{IsWholeLook}
use Rattle.world_laws.specs.Timelines.{taken_in, AreLeft, IsTimeline, only_if, come_back, high_steps}
use Rattle.world_laws.proofs.Timeline.Looks.{timeline, HasMore}
use Rattle.world_laws.proofs.Timeline.Stands.{at, Stands, Settled, returned}
use Rattle.world_laws.proofs.Timeline.Removals.{removed, publish_steps, removal_holds}
use Rattle.world_laws.proofs.Timeline.Sendings.{taken_up, takes_up, taking_up_keeps, sent, sending_keeps, sends_grow}

-- ---- a high look ----

module _ (row : SessionRow) (p : Past) (steps : List Step) (t : Point) (m : ℕ) (i : IsTimeline row p steps t) (late : p.moment ≤ m) where
  began : Stands row steps t m p.times p.sends (HighLook m ∷ []) p.world
  began =
      let was = i.high_moment in
      record {
        high = high_looking t.high m;
        leads = (at t p.world t.high, subst (λ (u : World). LeadsTo row steps (at t u t.high)) i.world i.run.leads, (omega (arith, was, late), i.high.nothing_left, refl));
        looking = refl;
        moment = refl;
        sent = record { times = i.high.times; sends = i.high.sends; nothing_left = i.high.nothing_left };
      }

  ended : (more : List Step) (q : Past) → q.history ≡ p.history → q.waits ≡ p.waits → q.is_broken ≡ p.is_broken → q.moment ≡ m
      → Settled row steps t m q.times q.sends more q.world → HasMore row q steps more
  ended more q history waits broken moment r =
      let s = r.stands in
      let low = i.low_moment in
      let high = s.moment in
      let waits_back = sym waits in
      let broken_back = sym broken in (
        at t q.world s.high,
        timeline row q (more ++ steps) (at t q.world s.high) p.history history
            (record { leads = s.leads; low = i.run.low; feedback = i.run.feedback; places = i.run.places })
            refl r.rest s.sent
            (subst (λ (k : List Arrival × Bool). AreLeft (comings t.life.side.events) (taken_in row steps t p.history i.run) k.0 k.1) (λ j. (waits_back j, broken_back j)) i.waits)
            (omega (arith, low, late, moment)) (omega (arith, high, moment)),
      )

  times_grow : (times : List ℕ) (time : Option ℕ) → publish_steps row steps t m time ≡ only_if (nat_lt (length times) (length (times ++ option_to_list time))) (Publish ∷ [])
  times_grow times None = ap (λ (b : Bool). only_if b (Publish ∷ [])) (sym (le-ltb (length times) (length (times ++ [])) (omega (arith, length-append times []))))
  times_grow times (Some τ) = ap (λ (b : Bool). only_if b (Publish ∷ [])) (sym (lt-ltb (length times) (length (times ++ τ ∷ [])) (omega (arith, length-append times (τ ∷ [])))))

  -- a receiver attaches in it, or none does
  pub high_look : (attaches : Bool) (back : Option ℕ) (q : Past) (printed : List Event) → IsWholeLook row attaches p m back q printed → HasMore row q steps (high_steps m back p q)
  high_look attaches back q printed (mid, first, second, r, k, e) =
      let f = r.look in
      let g = k.look in
      let a = returned row steps t m p.times p.sends (HighLook m ∷ []) p.world f.answered back began i.rest f.returns in
      let b = removed row steps t m p.times p.sends (come_back back ++ HighLook m ∷ []) f.answered mid.world a.stands a.rest f.time f.is_time f.removes in
      let times_back = sym f.times in
      let sends_back = sym f.sends in
      let begun : List Step = publish_steps row steps t m f.time ++ (only_if (has_removed f.answered mid.world) (Occurs RemoveEnd ∷ Occurs RemoveBegin ∷ []) ++ (come_back back ++ HighLook m ∷ [])) in
      let mid_stands = subst (λ (l : List ℕ × List Sending). Stands row steps t m l.0 l.1 begun mid.world) (λ j. (times_back j, sends_back j)) b.stands in
      let c = taken_up row steps t m mid.times mid.sends begun mid.world g.taken mid_stands b.rest g.takes_up in
      let up : List Step = only_if (takes_up row steps t m mid.times mid.world g.taken) (Occurs TakeUp ∷ []) ++ begun in
      let d = sent row steps t m mid.times mid.sends up g.taken q.world g.is_sent c.stands c.rest g.sent in
      let sends_after = sym g.sends in
      let times_after = sym g.times in
      let keeps = sending_keeps row steps t m mid.times g.taken q.world g.is_sent g.sent in
      let sent_so : g.is_sent ≡ nat_lt (length p.sends) (length q.sends) =
      sym (sends_grow row steps t m mid.times mid.sends g.taken q.world g.is_sent g.sent) ∙ (λ j. nat_lt (length (f.sends j)) (length (sends_after j))) in
      let before : mid.world.held ≡ p.world.held = removal_holds f.answered mid.world f.removes ∙ a.held in
      let after : g.taken.held ≡ q.world.held = sym keeps.1 in
      let up_so : takes_up row steps t m mid.times mid.world g.taken ≡ nat_lt (length q.world.held) (length p.world.held) = λ j. nat_lt (length (after j)) (length (before j)) in
      let listed : q.times ≡ p.times ++ option_to_list f.time = g.times ∙ f.times in
      let times_so : publish_steps row steps t m f.time ≡ only_if (nat_lt (length p.times) (length q.times)) (Publish ∷ []) =
      times_grow p.times f.time ∙ ap (λ (l : List ℕ). only_if (nat_lt (length p.times) (length l)) (Publish ∷ [])) (sym listed) in
      let count : mid.world.removed ≡ q.world.removed = sym (keeps.0 ∙ taking_up_keeps row steps t m mid.times mid.world g.taken g.takes_up) in
      let removed_so : has_removed f.answered mid.world ≡ nat_lt p.world.removed q.world.removed = λ j. nat_lt (a.removed j) (count j) in
      let all : only_if g.is_sent (Occurs Send ∷ []) ++ up ≡ high_steps m back p q =
      λ j. only_if (sent_so j) (Occurs Send ∷ []) ++ (only_if (up_so j) (Occurs TakeUp ∷ []) ++ (times_so j
      ++ (only_if (removed_so j) (Occurs RemoveEnd ∷ Occurs RemoveBegin ∷ []) ++ (come_back back ++ HighLook m ∷ [])))) in
      ended (high_steps m back p q) q (ap (λ (x : Past). x.history) k.rest ∙ ap (λ (x : Past). x.history) r.rest)
      (ap (λ (x : Past). x.waits) k.rest ∙ ap (λ (x : Past). x.waits) r.rest)
      (ap (λ (x : Past). x.is_broken) k.rest ∙ ap (λ (x : Past). x.is_broken) r.rest)
      (ap (λ (x : Past). x.moment) k.rest)
      (subst (λ (l : List ℕ × List Sending × List Step). Settled row steps t m l.0 l.1 l.2 q.world) (λ j. (times_after j, sends_after j, all j)) d)
