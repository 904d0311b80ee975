use Rattle.std.proofs.Common.{◌≡◌, List, ℕ, Some, Result, Ok, Err, IfOk, sym, ◌∙◌, subst}
use Rattle.file_collector.specs.Registers.{RegisterStands}
use Rattle.file_collector.specs.Making.{IsUnmade}
use Rattle.file_collector.proofs.Made.{unmade_not}
use Rattle.file_collector.proofs.Causes.{if_err, closed_at}
use Rattle.file_collector.proofs.opening.take_register.Goals as goal

if_ok : {T E : Type 0} (r : Result T E) (P Q : T → Type 0) → ((t : T) → P t → Q t) → IfOk r P → IfOk r Q
if_ok (Ok t) P Q f p = f t p
if_ok (Err e) P Q f p = tt

some_is : (a b : List ℕ) → Some a ≡ Some b → a ≡ b
some_is a b e = cc e

pub returns-in-Ok-clause-found : goal.returns-in-Ok-clause-found
returns-in-Ok-clause-found g c =
    let md = g.I.Disk.Disk.told in
    let e = c.in-Ok.ensures in
    if_ok c.open_register.result _ _ (λ register found told tells count state bytes is stands.
    found count state (λ yes. subst (λ (l : List ℕ). RegisterStands count state l) (some_is bytes (md.reading c.in-Ok.disk) (sym is ∙ e.reads told)) stands) tells)
    c.open_register.ensures.found

pub returns-in-Ok-clause-new : goal.returns-in-Ok-clause-new
returns-in-Ok-clause-new g c =
    let md = g.I.Disk.Disk.told in
    let e = c.in-Ok.ensures in
    if_ok c.open_register.result _ _ (λ register new told tells reads.
    new (λ yes. unmade_not (md.reading c.in-Ok.disk) (subst IsUnmade (some_is reads.bytes (md.reading c.in-Ok.disk) (sym reads.reads ∙ e.reads told)) reads.holds)) tells)
    c.open_register.ensures.new

pub returns-in-Ok-clause-cause : goal.returns-in-Ok-clause-cause
returns-in-Ok-clause-cause g c =
    let mi = g.I.Inbox.told in
    let md = g.I.Disk.Disk.told in
    let e = c.in-Ok.ensures in
    if_err c.open_register.result _ _ (λ fault is. closed_at mi md c.args.inbox.now _ c.in-Ok.disk fault e.reads e.settled is) c.open_register.ensures.cause
