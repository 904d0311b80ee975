-- From the steps of the code to what it stands for.
use Rattle.std.proofs.Common.{◌≡◌, ℕ, ◌≤◌, ◌++◌, Bool, List, sym, ◌∙◌, subst}
use Rattle.pump_frame.specs.declared.row.SessionRow.{SessionRow}
use Rattle.pump_core.specs.History.{Arrival}
use Rattle.low_process.specs.declared.values.Asking.{Asking}
use Rattle.low_process.specs.declared.values.Asking.TheVariants.{Nothing as AsksNothing, Forward as AsksForward, Average as AsksAverage}
use Rattle.low_process.specs.declared.values.Ask.{Ask}
use Rattle.low_process.specs.declared.values.Ask.TheVariants.{Done, Forward, Average}
use Rattle.low_process.specs.declared.process.LowProcess.{LowProcess}
use Rattle.pump_core.specs.History.{Look, History, looked}
use Rattle.low_process.specs.declared.values.LowLook.{LowLook}
use Rattle.pump_core.specs.Exchanges.{Part, IsCut}
use Rattle.pump_core.specs.Replies.{Sent, sent, LowReplies, takes, stores}
use Rattle.pump_core.specs.Standing.{State, StandsAt}
use Rattle.low_process.specs.Looks.{state_of, look_of, StandsFor, Asks, AsksFor, Looks, LookBegins}
use Rattle.low_process.specs.Steps.{Stepped, StepBegins}
use Rattle.pump_core.proofs.Standings.{stands_after, replies_after, newest_after}

module _ (row : SessionRow) (s : State) (last : ℕ) (h : History) (x : Look) (q : LowProcess) (l : LowLook) (step : Stepped row s q x l) (stands : StandsAt row s last h) where
  history : q.row ≡ row → q.last ≡ x.moment → last ≤ x.moment → StandsFor q (looked h x)
  history same now order = record {
    asking = step.asking;
    stands = subst (λ (t : SessionRow × State × ℕ). StandsAt t.0 t.1 t.2 (looked h x)) (λ i. (sym same i, sym step.state i, sym now i)) (stands_after row s last h x step.fits stands order);
  }

  replies : (before : List Sent) → LowReplies row h before → LowReplies row (looked h x) (before ++ sent x l.reply)
  replies before was = subst (λ t. LowReplies row (looked h x) (before ++ sent x t)) (sym step.reply) (replies_after row s last h x step.fits stands before was)

  taken : (parts : List Part) → IsCut row (looked h x).life parts → l.taken ≡ takes parts
  taken parts c = step.taken ∙ sym (newest_after row s last h x step.fits stands parts c).taken

  stored : (parts : List Part) → IsCut row (looked h x).life parts → l.stored ≡ stores parts
  stored parts c = step.stored ∙ sym (newest_after row s last h x step.fits stands parts c).stored

asks_for : (p q : LowProcess) (h : History) (m w : ℕ) (a : Arrival) (d : Bool) (k : Asking) → q.row ≡ p.row → state_of q ≡ state_of p → q.asking ≡ k → q.last ≡ m → q.word ≡ w → p.last ≤ m → Asks p.row (state_of p) a k → StandsFor p h → AsksFor q h m w a d
asks_for p q h m w a d k row state asking now word order asks stands = record {
  asks = subst (λ (t : SessionRow × State × Asking). Asks t.0 t.1 a t.2) (λ i. (sym row i, sym state i, sym asking i)) asks;
  before = p.last;
  stands = subst (λ (t : SessionRow × State). StandsAt t.0 t.1 p.last h) (λ i. (sym row i, sym state i)) stands.stands;
  order = order;
  moment = now;
  word = word;
}

pub begun : (p q : LowProcess) (m w : ℕ) (a : Arrival) (d : Bool) (r : Ask) → StepBegins p q m w a d r → q.row ≡ p.row → q.last ≡ m → q.word ≡ w → p.last ≤ m → LookBegins p q m w a d r
begun p q m w a d (Done l) step row now word order =
    let x = look_of m w a d l.feedback in (
      step.0,
      record {
        asking = step.1.asking;
        history = λ h t. history p.row (state_of p) p.last h x q l step.1 t.stands row now order;
        replies = λ h before t was. replies p.row (state_of p) p.last h x q l step.1 t.stands before was;
        taken = λ h parts t c. taken p.row (state_of p) p.last h x q l step.1 t.stands parts c;
        stored = λ h parts t c. stored p.row (state_of p) p.last h x q l step.1 t.stands parts c;
      },
    )
begun p q m w a d (Forward item) step row now word order = (step.0, λ h t. asks_for p q h m w a d AsksForward row step.1 step.0 now word order step.2 t)
begun p q m w a d Average step row now word order =
    let n = step.1.0 in
    ((n, step.1.1), λ h t. asks_for p q h m w a d (AsksAverage n) row step.0 step.1.1 now word order step.1.2 t)

pub finished : (p q : LowProcess) (l : LowLook) → q.asking ≡ AsksNothing → ((a : Arrival) (d : Bool) → Asks p.row (state_of p) a p.asking → Stepped p.row (state_of p) q (look_of p.last p.word a d l.feedback) l) → q.row ≡ p.row → q.last ≡ p.last → (m w : ℕ) (a : Arrival) (d : Bool) → Looks (λ h. AsksFor p h m w a d) q p.row (look_of m w a d l.feedback) l
finished p q l none step row last m w a d =
    let x = look_of m w a d l.feedback in
    record {
      asking = none;
      history = λ h t. history p.row (state_of p) t.before h x q l (stepped h t) t.stands row (last ∙ t.moment) t.order;
      replies = λ h before t was. replies p.row (state_of p) t.before h x q l (stepped h t) t.stands before was;
      taken = λ h parts t c. taken p.row (state_of p) t.before h x q l (stepped h t) t.stands parts c;
      stored = λ h parts t c. stored p.row (state_of p) t.before h x q l (stepped h t) t.stands parts c;
    }
  where
    stepped : (h : History) → AsksFor p h m w a d → Stepped p.row (state_of p) q (look_of m w a d l.feedback) l
    stepped h t = subst (λ (u : ℕ × ℕ). Stepped p.row (state_of p) q (look_of u.0 u.1 a d l.feedback) l) (λ i. (t.moment i, t.word i)) (step a d t.asks)

-- a look of a process that asked is a look of the process before
pub look_from : (A B : History → Type 0) (q : LowProcess) (row row' : SessionRow) (x : Look) (l : LowLook) → row ≡ row' → ((h : History) → B h → A h) → Looks A q row x l → Looks B q row' x l
look_from A B q row row' x l same from e = subst (λ (r : SessionRow). Looks B q r x l) same (record {
  asking = e.asking;
  history = λ h t. e.history h (from h t);
  replies = λ h before t was. e.replies h before (from h t) was;
  taken = λ h parts t c. e.taken h parts (from h t) c;
  stored = λ h parts t c. e.stored h parts (from h t) c;
})
