use Rattle.std.proofs.Common.{◌≡◌, ◌<◌, ℕ, suc, length, None, IfSome, refl, sym, ◌∙◌, ap, subst, arith}
use Rattle.file_messages.specs.Files.{State, Between, Inside}
use Rattle.stable_buffer.specs.Register.{register_disk, register_value}
use Rattle.stable_buffer.specs.declared.register.Register.{Register}
use Rattle.folders.specs.Placing.{Part, first_of}
use Rattle.file_collector.specs.Registers.{IsKept, held}
use Rattle.file_collector.specs.Gathering.{IsWellBegun, PartStands}
use Rattle.file_collector.specs.Opening.{IsFoundAt, lying_part}
use Rattle.disk_model.specs.Disk.{Same}
use Rattle.disk_model.proofs.Run.{started}
use Rattle.file_collector.specs.Closed.{IsFindFault, IsWhyClosed, GaveRegister, GavePart}
use Rattle.file_collector.proofs.Crashes.{gave_on, part_by, same_passes, if_some_by}
use Rattle.file_collector.proofs.Found.{both_ok, if_ok, on_ok_by, found_between, none_held, some_held}
use Rattle.file_collector.proofs.Resumes.{turns_on}
use Rattle.file_collector.proofs.Sound.{sound_between}
use Rattle.file_collector.proofs.Causes.{if_err, value_read, closed_by, own_by}
use Rattle.file_collector.proofs.opening.find.Goals as goal

pub returns-then-value-eq0-clause-here : goal.returns-then-value-eq0-clause-here
returns-then-value-eq0-clause-here g c = λ told tells count state bytes is stands begun part.
    let mi = g.I.Inbox.told in
    let md = g.I.Disk.Disk.told in
    let r = c.in_ok-register.ensures in
    let b = c.between.ensures in
    let kept = r.found told tells count state bytes is stands in
    let none : held state ≡ 0 = ap (λ (v : ℕ × ℕ). v.1) (sym kept.value) ∙ ap (λ (v : ℕ × ℕ). v.1) (sym c.value.ensures) ∙ c.if-value-eq0.true in
    let between : state ≡ Between = none_held state none in
    subst (λ (s : State). IsFoundAt mi md c.take_register.new.inbox c.between.result count s) (sym between)
    (found_between mi md c.take_register.new.inbox c.between.result count None b.part b.assembly r.durable
    (subst (λ (q : Register _). IsKept md q count Between) (sym b.register) (subst (λ (s : State). IsKept md c.in_ok-register.register count s) between kept)) b.lost)

pub returns-then-value-eq0-clause-ahead : goal.returns-then-value-eq0-clause-ahead
returns-then-value-eq0-clause-ahead g c = λ told tells count name size bytes disk is stands begun few whole.
    let r = c.in_ok-register.ensures in
    let kept = r.found told tells count (Inside name size bytes) disk is stands in
    let none : suc (length bytes) ≡ 0 = ap (λ (v : ℕ × ℕ). v.1) (sym kept.value) ∙ ap (λ (v : ℕ × ℕ). v.1) (sym c.value.ensures) ∙ c.if-value-eq0.true in
    absurd (omega (arith, none))

pub returns-clause-here : goal.returns-clause-here
returns-clause-here g c =
    let mi = g.I.Inbox.told in
    let md = g.I.Disk.Disk.told in
    let r = c.in_ok-register.ensures in
    if_ok c.find_part.result _ _ (λ found here told tells count state bytes is stands begun part.
    let kept = r.found told tells count state bytes is stands in
    let some : held state ≡ 0 → ⊥ = λ none. c.if-value-eq0.false (ap (λ (v : ℕ × ℕ). v.1) (c.value.ensures ∙ kept.value) ∙ none) in
    let (name, size, has, inside) = some_held state some in
    let same : mi.part c.take_register.new.inbox ≡ mi.part c.args.inbox.now = r.stays.part in
    subst (λ (s : State). IsFoundAt mi md c.find_part.new.inbox found count s) (sym inside)
    (here told tells count name size has (subst (λ (s : State). IsKept md c.in_ok-register.register count s) inside kept) (subst IsWellBegun inside begun)
    (subst (λ (p : Part). PartStands (Inside name size has) (lying_part p)) (sym same) (subst (λ (s : State). PartStands s (lying_part (mi.part c.args.inbox.now))) inside part))))
    c.find_part.ensures.here

pub returns-clause-ahead : goal.returns-clause-ahead
returns-clause-ahead g c =
    let mi = g.I.Inbox.told in
    let md = g.I.Disk.Disk.told in
    let r = c.in_ok-register.ensures in
    if_ok c.find_part.result _ _ (λ found ahead told tells count name size bytes disk is stands begun few.
    ahead told tells count name size bytes (r.found told tells count (Inside name size bytes) disk is stands) begun (ap (first_of (length bytes)) r.stays.part ∙ few))
    c.find_part.ensures.ahead

pub returns-then-value-eq0-clause-lost : goal.returns-then-value-eq0-clause-lost
returns-then-value-eq0-clause-lost g c = λ told tells count name size bytes disk is stands begun few some.
    let r = c.in_ok-register.ensures in
    let kept = r.found told tells count (Inside name size bytes) disk is stands in
    let none : suc (length bytes) ≡ 0 = ap (λ (v : ℕ × ℕ). v.1) (sym kept.value) ∙ ap (λ (v : ℕ × ℕ). v.1) (sym c.value.ensures) ∙ c.if-value-eq0.true in
    absurd (omega (arith, none))

pub returns-clause-lost : goal.returns-clause-lost
returns-clause-lost g c =
    let mi = g.I.Inbox.told in
    let r = c.in_ok-register.ensures in
    if_ok c.find_part.result _ _ (λ found lost told tells count name size bytes disk is stands begun few.
    lost told tells count name size bytes (r.found told tells count (Inside name size bytes) disk is stands) begun (ap (first_of (length bytes)) r.stays.part ∙ few))
    c.find_part.ensures.lost

pub returns-clause-cause : goal.returns-clause-cause
returns-clause-cause g c =
    let mi = g.I.Inbox.told in
    let md = g.I.Disk.Disk.told in
    let r = c.in_ok-register.ensures in
    let register = c.in_ok-register.register in
    let some : 0 < register.second = omega (arith, c.if-value-eq0.false, ap (λ (v : ℕ × ℕ). v.1) c.value.ensures) in
    if_err c.find_part.result (λ fault. IsFindFault mi md c.take_register.new.inbox c.find_part.new.inbox register fault) (λ fault. IsWhyClosed mi md c.args.inbox.now c.find_part.new.inbox fault)
    (λ fault. closed_by mi md c.args.inbox.now c.take_register.new.inbox c.find_part.new.inbox register fault r.taken r.register.ready r.register.settled some r.later r.stays.part r.found)
    c.find_part.ensures.cause

pub returns-then-value-eq0-clause-new : goal.returns-then-value-eq0-clause-new
returns-then-value-eq0-clause-new g c = λ told tells reads.
    let mi = g.I.Inbox.told in
    let md = g.I.Disk.Disk.told in
    let r = c.in_ok-register.ensures in
    let b = c.between.ensures in
    found_between mi md c.take_register.new.inbox c.between.result 0 None b.part b.assembly r.durable
    (subst (λ (q : Register _). IsKept md q 0 Between) (sym b.register) (r.new told tells reads)) b.lost

pub returns-clause-new : goal.returns-clause-new
returns-clause-new g c =
    let r = c.in_ok-register.ensures in
    if_ok c.find_part.result _ _ (λ found is told tells reads.
    let kept = r.new told tells reads in
    absurd (c.if-value-eq0.false (ap (λ (v : ℕ × ℕ). v.1) (c.value.ensures ∙ kept.value))))
    c.find_part.ensures.found

pub returns-then-value-eq0-clause-own : goal.returns-then-value-eq0-clause-own
returns-then-value-eq0-clause-own g c =
    let mi = g.I.Inbox.told in
    let md = g.I.Disk.Disk.told in
    let r = c.in_ok-register.ensures in
    let register = c.in_ok-register.register in
    own_by mi md c.args.inbox.now register r.taken (λ tells is. sound_between (md.reading (register_disk register)) (register_value register) (value_read md register r.register.ready tells) r.register.count
    (ap (λ (v : ℕ × ℕ). v.1) (sym c.value.ensures) ∙ c.if-value-eq0.true) is)

pub returns-clause-own : goal.returns-clause-own
returns-clause-own g c =
    on_ok_by c.find_part.result _ _ (own_by g.I.Inbox.told g.I.Disk.Disk.told c.args.inbox.now c.in_ok-register.register c.in_ok-register.ensures.taken) c.find_part.ensures.sound

pub returns-clause-turns : goal.returns-clause-turns
returns-clause-turns g c = turns_on g.I.Inbox.told c.args.inbox.now c.take_register.new.inbox c.find_part.new.inbox c.in_ok-register.ensures.stays.turns c.find_part.ensures.keeps.turns

pub returns-clause-shown : goal.returns-clause-shown
returns-clause-shown g c = c.find_part.ensures.keeps.shown ∙ c.in_ok-register.ensures.stays.shown

pub returns-clause-later : goal.returns-clause-later
returns-clause-later g c = omega (arith, c.take_register.ensures.later, c.find_part.ensures.keeps.later)

pub returns-then-value-eq0-clause-during : goal.returns-then-value-eq0-clause-during
returns-then-value-eq0-clause-during g c =
    let mi = g.I.Inbox.told in
    let md = g.I.Disk.Disk.told in
    let old = c.args.inbox.now in
    let taken = c.take_register.new.inbox in
    let r = c.in_ok-register.ensures in
    let b = c.between.ensures in
    let disk = register_disk c.in_ok-register.register in
    record {
      of_register = subst (λ (q : Register _). GaveRegister mi md old (register_disk q)) (sym b.register)
          (gave_on mi md old taken c.in_ok-register.register disk r.taken r.register.settled r.stays.part (same_passes md mi.tells (mi.part taken) disk disk (started md Same (λ c. refl) disk)));
      of_part = subst (λ p. IfSome p (λ disk. GavePart mi md old disk)) (sym b.part) tt;
    }

pub returns-clause-during : goal.returns-clause-during
returns-clause-during g c =
    let mi = g.I.Inbox.told in
    let md = g.I.Disk.Disk.told in
    let old = c.args.inbox.now in
    let taken = c.take_register.new.inbox in
    let r = c.in_ok-register.ensures in
    let register = c.in_ok-register.register in
    if_ok c.find_part.result _ _ (λ found (moves, part). record {
      of_register = gave_on mi md old taken register (register_disk found.register) r.taken r.register.settled r.stays.part moves;
      of_part = if_some_by found.part _ _ (λ disk is. part_by mi md old taken register disk r.stays.part r.found is) part;
    })
    (both_ok c.find_part.result _ _ c.find_part.ensures.moves c.find_part.ensures.part)
