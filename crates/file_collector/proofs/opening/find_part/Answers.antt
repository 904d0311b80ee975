use Rattle.std.proofs.Common.{◌≡◌, ◌+◌, ◌-◌, ◌<◌, ℕ, suc, [], length, option_map, List, None, Some, IfSome, sym, ◌∙◌, ap, subst, arith}
use Rattle.disk_model.specs.Disk.{Settled}
use Rattle.stable_buffer.specs.Register.{register_disk, register_value, value_of}
use Rattle.file_messages.specs.Files.{Inside}
use Rattle.folders.specs.Placing.{Given, first_of}
use Rattle.file_collector.specs.Opening.{HasFed}
use Rattle.file_collector.proofs.Found.{if_ok, on_ok, both_ok, progress_size, progress_name, found_some, part_found, kept_same, register_same, none_not, found_begun, found_between}
use Rattle.file_collector.proofs.Sound.{sound_begun}
use Rattle.file_collector.proofs.Causes.{value_read, past_end, if_err}
use Rattle.file_collector.specs.Making.{IsRegister}
use Rattle.file_collector.specs.Closed.{IsSound}
use Rattle.file_collector.proofs.Crashes.{Known, known_by, same_passes, skips_pass, find_fault}
use Rattle.file_collector.proofs.opening.find_part.Goals as goal
use Rattle.file_collector.proofs.opening.find_part.Goals.{then-count-ge-LIMIT-via-then-count-ge-LIMIT, then-count-ge-LIMIT-via-else-count-ge-LIMIT+then-held-progress}

pub returns-in-Some-2-clause-found : goal.returns-in-Some-2-clause-found
returns-in-Some-2-clause-found g c =
    let mi = g.I.Inbox.told in
    let md = g.I.Disk.Disk.told in
    let r = c.in_ok-assembly.ensures in
    let e = c.in_ok-part.ensures in
    let n = c.value-count.result.1 - 1 in
    found_begun mi md c.resume.new.inbox c.read_start.new.register c.in-Some-2.part c.in_ok-assembly.assembly c.resume.new.assembly n c.in-Some.progress c.progress.result c.in-Some.is c.progress.ensures
    r.begun
    (subst (λ p. IfSome p (λ d. HasFed md d n c.in_ok-assembly.assembly c.resume.new.assembly)) c.in-Some-2.is e.fed)
    (omega (arith, c.if-held-progress.false))
    (subst (λ p. IfSome p (λ d. Settled md d)) c.in-Some-2.is e.settled)
    (subst (λ p. IfSome p (λ d. mi.tells → mi.part c.resume.new.inbox ≡ Given)) c.in-Some-2.is e.given)
    (e.durable c.requires.durable) (register_same md c.args.register c.read_start.new.register c.requires.register r.ready r.value r.moves)

pub returns-in-None-clause-here : goal.returns-in-None-clause-here
returns-in-None-clause-here g c =
    let mi = g.I.Inbox.told in
    let md = g.I.Disk.Disk.told in
    let r = c.in_ok-assembly.ensures in
    let e = c.in_ok-part.ensures in
    if_ok c.without_part.result _ _ (λ found register told tells count name size bytes kept begun stands.
    let held : c.value-count.result.1 ≡ suc (length bytes) = ap (λ (v : ℕ × ℕ). v.1) (c.value-count.ensures ∙ r.value ∙ kept.value) in
    let n : c.value-count.result.1 - 1 ≡ length bytes = omega (arith, held) in
    let there : option_map md.reading None ≡ first_of (c.value-count.result.1 - 1) (mi.part c.args.inbox.now) = ap (option_map md.reading) (sym c.in-None.is) ∙ e.found told tells in
    absurd (none_not md md.reading bytes (there ∙ ap (λ k. first_of k (mi.part c.args.inbox.now)) n ∙ part_found (mi.part c.args.inbox.now) name size bytes stands)))
    c.without_part.ensures.register

pub returns-in-None-clause-ahead : goal.returns-in-None-clause-ahead
returns-in-None-clause-ahead g c =
    let mi = g.I.Inbox.told in
    let md = g.I.Disk.Disk.told in
    let r = c.in_ok-assembly.ensures in
    let e = c.in_ok-part.ensures in
    let w = c.without_part.ensures in
    if_ok c.without_part.result _ _ (λ found (part, (assembly, shown)) told tells count name size bytes kept begun few whole.
    let held : c.value-count.result.1 ≡ suc (length bytes) = ap (λ (v : ℕ × ℕ). v.1) (c.value-count.ensures ∙ r.value ∙ kept.value) in
    let now = kept_same md c.args.register c.read_start.new.register count (Inside name size bytes) kept r.ready r.value r.moves in
    let stands = r.found tells name size bytes begun (let on = kept.stands tells in on.start) in
    let sized : c.in-Some.progress.size ≡ size = progress_size c.in-Some.progress name size [] c.progress.result c.in-Some.is (c.progress.ensures (Inside name size []) stands) in
    let all : c.value-count.result.1 - 1 ≡ c.in-Some.progress.size = omega (arith, held, whole, sized) in
    let after = shown all count (Inside name size bytes) now in
    found_between mi md c.resume.new.inbox found (count + 1) None part assembly (e.durable c.requires.durable) after.0 after.1)
    (both_ok c.without_part.result _ _ w.part (both_ok c.without_part.result _ _ w.assembly w.shown))

pub returns-then-count-ge-LIMIT-clause-cause : goal.returns-then-count-ge-LIMIT-clause-cause
returns-then-count-ge-LIMIT-clause-cause g c = λ tells sound.
    let md = g.I.Disk.Disk.told in
    let r = c.in_ok-assembly.ensures in
    let disk = md.reading (register_disk c.args.register) in
    let same : c.value-count.result ≡ register_value c.args.register = c.value-count.ensures ∙ r.value in
    let is : value_of disk ≡ c.value-count.result = value_read md c.args.register c.requires.register.ready tells ∙ sym same in
    past_end disk c.value-count.result is (subst (λ (v : ℕ × ℕ). 0 < v.1) (sym same) c.requires.begun) c.in_ok-assembly.assembly c.in-Some.progress c.progress.result c.in-Some.is c.progress.ensures (r.found tells)
    (λ few le. elim c.then-count-ge-LIMIT.branch [
      | then-count-ge-LIMIT-via-then-count-ge-LIMIT w ↦ absurd (omega (arith, few, w.if-count-ge-LIMIT.true))
      | then-count-ge-LIMIT-via-else-count-ge-LIMIT+then-held-progress w ↦ absurd (omega (arith, le, w.if-held-progress.true))
    ]) sound

pub returns-in-Some-2-clause-sound : goal.returns-in-Some-2-clause-sound
returns-in-Some-2-clause-sound g c = λ tells register.
    let md = g.I.Disk.Disk.told in
    let r = c.in_ok-assembly.ensures in
    let disk = md.reading (register_disk c.args.register) in
    let same : c.value-count.result ≡ register_value c.args.register = c.value-count.ensures ∙ r.value in
    let is : value_of disk ≡ c.value-count.result = value_read md c.args.register c.requires.register.ready tells ∙ sym same in
    sound_begun disk c.value-count.result c.in_ok-assembly.assembly c.in-Some.progress c.progress.result c.in-Some.is c.progress.ensures is (omega (arith, c.if-count-ge-LIMIT.false))
    (subst (λ (v : ℕ × ℕ). 0 < v.1) (sym same) c.requires.begun) (omega (arith, c.if-held-progress.false)) (r.by tells) register

pub returns-in-None-clause-sound : goal.returns-in-None-clause-sound
returns-in-None-clause-sound g c = on_ok c.without_part.result _ (λ tells register.
    let md = g.I.Disk.Disk.told in
    let r = c.in_ok-assembly.ensures in
    let disk = md.reading (register_disk c.args.register) in
    let same : c.value-count.result ≡ register_value c.args.register = c.value-count.ensures ∙ r.value in
    let is : value_of disk ≡ c.value-count.result = value_read md c.args.register c.requires.register.ready tells ∙ sym same in
    sound_begun disk c.value-count.result c.in_ok-assembly.assembly c.in-Some.progress c.progress.result c.in-Some.is c.progress.ensures is (omega (arith, c.if-count-ge-LIMIT.false))
    (subst (λ (v : ℕ × ℕ). 0 < v.1) (sym same) c.requires.begun) (omega (arith, c.if-held-progress.false)) (r.by tells) register)

pub returns-in-None-clause-lost : goal.returns-in-None-clause-lost
returns-in-None-clause-lost g c =
    let mi = g.I.Inbox.told in
    let md = g.I.Disk.Disk.told in
    let r = c.in_ok-assembly.ensures in
    let e = c.in_ok-part.ensures in
    let w = c.without_part.ensures in
    if_ok c.without_part.result _ _ (λ found (part, (assembly, (lost, left))) told tells count name size bytes kept begun few some.
    let held : c.value-count.result.1 ≡ suc (length bytes) = ap (λ (v : ℕ × ℕ). v.1) (c.value-count.ensures ∙ r.value ∙ kept.value) in
    let now = kept_same md c.args.register c.read_start.new.register count (Inside name size bytes) kept r.ready r.value r.moves in
    let stands = r.found tells name size bytes begun (let on = kept.stands tells in on.start) in
    let is = c.progress.ensures (Inside name size []) stands in
    let sized : c.in-Some.progress.size ≡ size = progress_size c.in-Some.progress name size [] c.progress.result c.in-Some.is is in
    let named : c.in-Some.progress.name ≡ name = progress_name c.in-Some.progress name size [] c.progress.result c.in-Some.is is in
    let not_all : c.value-count.result.1 - 1 ≡ c.in-Some.progress.size → ⊥ = λ all. some (omega (arith, held, all, sized)) in
    found_between mi md c.resume.new.inbox found count (Some name) part assembly (e.durable c.requires.durable) (left not_all count (Inside name size bytes) now)
    (lost not_all ∙ ap (λ (l : List ℕ). Some l) named))
    (both_ok c.without_part.result _ _ w.part (both_ok c.without_part.result _ _ w.assembly (both_ok c.without_part.result _ _ w.lost w.left)))

pub returns-in-Some-2-clause-ahead : goal.returns-in-Some-2-clause-ahead
returns-in-Some-2-clause-ahead g c = λ told tells count name size bytes kept begun few whole.
    let r = c.in_ok-assembly.ensures in
    let held : c.value-count.result.1 ≡ suc (length bytes) = ap (λ (v : ℕ × ℕ). v.1) (c.value-count.ensures ∙ r.value ∙ kept.value) in
    absurd (found_some g.I.Disk.Disk.told _ c.in-Some-2.part (c.value-count.result.1 - 1) (length bytes) (g.I.Inbox.told.part c.args.inbox.now) c.in-Some-2.is (c.in_ok-part.ensures.found told tells) (omega (arith, held)) few)

pub returns-in-Some-2-clause-lost : goal.returns-in-Some-2-clause-lost
returns-in-Some-2-clause-lost g c = λ told tells count name size bytes kept begun few some.
    let r = c.in_ok-assembly.ensures in
    let held : c.value-count.result.1 ≡ suc (length bytes) = ap (λ (v : ℕ × ℕ). v.1) (c.value-count.ensures ∙ r.value ∙ kept.value) in
    absurd (found_some g.I.Disk.Disk.told _ c.in-Some-2.part (c.value-count.result.1 - 1) (length bytes) (g.I.Inbox.told.part c.args.inbox.now) c.in-Some-2.is (c.in_ok-part.ensures.found told tells) (omega (arith, held)) few)

pub returns-in-Some-2-clause-moves : goal.returns-in-Some-2-clause-moves
returns-in-Some-2-clause-moves g c =
    let mi = g.I.Inbox.told in
    same_passes g.I.Disk.Disk.told mi.tells (mi.part c.args.inbox.now) (register_disk c.args.register) (register_disk c.read_start.new.register) c.read_start.ensures.moves

pub returns-in-None-clause-moves : goal.returns-in-None-clause-moves
returns-in-None-clause-moves g c =
    let md = g.I.Disk.Disk.told in
    let mi = g.I.Inbox.told in
    let r = c.in_ok-assembly.ensures in
    let e = c.in_ok-part.ensures in
    let v = c.value-count.result in
    let part = mi.part c.args.inbox.now in
    let disk = md.reading (register_disk c.args.register) in
    let same : v ≡ register_value c.args.register = c.value-count.ensures ∙ r.value in
    let some : 0 < v.1 = subst (λ (v : ℕ × ℕ). 0 < v.1) (sym same) c.requires.begun in
    let known : md.tells → Known mi.tells part (v.1 - 1 ≡ c.in-Some.progress.size) disk = λ tells.
    let is : value_of disk ≡ v = value_read md c.args.register c.requires.register.ready tells ∙ sym same in
    let sound : IsRegister disk → IsSound disk = λ register.
    sound_begun disk v c.in_ok-assembly.assembly c.in-Some.progress c.progress.result c.in-Some.is c.progress.ensures is (omega (arith, c.if-count-ge-LIMIT.false)) some (omega (arith, c.if-held-progress.false)) (r.by tells) register in
    let none : mi.tells → None ≡ first_of (v.1 - 1) part = λ told. ap (option_map md.reading) (sym c.in-None.is) ∙ e.found told tells in
    known_by mi.tells disk v is some c.in_ok-assembly.assembly c.in-Some.progress c.progress.result c.in-Some.is c.progress.ensures (r.found tells) part none sound in
    if_ok c.without_part.result _ _ (λ found moves. skips_pass md mi.tells part (v.1 - 1 ≡ c.in-Some.progress.size) (register_disk c.args.register) (register_disk c.read_start.new.register) (register_disk found.register)
    c.requires.register.settled known c.read_start.ensures.moves moves) c.without_part.ensures.moves

pub returns-in-None-clause-cause : goal.returns-in-None-clause-cause
returns-in-None-clause-cause g c =
    let md = g.I.Disk.Disk.told in
    let mi = g.I.Inbox.told in
    let r = c.in_ok-assembly.ensures in
    let e = c.in_ok-part.ensures in
    let v = c.value-count.result in
    let part = mi.part c.args.inbox.now in
    let disk = md.reading (register_disk c.args.register) in
    let same : v ≡ register_value c.args.register = c.value-count.ensures ∙ r.value in
    let some : 0 < v.1 = subst (λ (v : ℕ × ℕ). 0 < v.1) (sym same) c.requires.begun in
    let known : md.tells → Known mi.tells part (v.1 - 1 ≡ c.in-Some.progress.size) disk = λ tells.
    let is : value_of disk ≡ v = value_read md c.args.register c.requires.register.ready tells ∙ sym same in
    let sound : IsRegister disk → IsSound disk = λ register.
    sound_begun disk v c.in_ok-assembly.assembly c.in-Some.progress c.progress.result c.in-Some.is c.progress.ensures is (omega (arith, c.if-count-ge-LIMIT.false)) some (omega (arith, c.if-held-progress.false)) (r.by tells) register in
    let none : mi.tells → None ≡ first_of (v.1 - 1) part = λ told. ap (option_map md.reading) (sym c.in-None.is) ∙ e.found told tells in
    known_by mi.tells disk v is some c.in_ok-assembly.assembly c.in-Some.progress c.progress.result c.in-Some.is c.progress.ensures (r.found tells) part none sound in
    if_err c.without_part.result _ _ (λ fault is. find_fault mi md c.args.inbox.now _ c.args.register c.read_start.new.register (v.1 - 1 ≡ c.in-Some.progress.size)
    c.requires.register.settled known c.read_start.ensures.moves c.read_start.ensures.later fault is) c.without_part.ensures.cause
