use Rattle.std.proofs.Common.{◌≡◌, ◌≤◌, true, false, take, length, List, ap, sym, subst, arith, ◌∙◌}
use Rattle.pump_frame.specs.Readings.{HasBegun}
use Rattle.two_worlds.specs.Connections.{Connected, AreLawful, JoinsRaw}
use Rattle.two_worlds.specs.Private.Arrivals.{arrivals_of}
use Rattle.two_worlds.specs.declared.connection.Waiting.{Waiting}
use Rattle.two_worlds.proofs.Arriving.RawBytes.{cut_back}
use Rattle.two_worlds.proofs.Arriving.Joining.{holding, raw_crowds, raw_lawful, raw_joins}
use Rattle.two_worlds.proofs.connection.Connection.join_raw.Goals as goal

cut : (c : goal.After-truncate) → c.truncate.new.self ≡ c.self.inside.waits
cut c =
    let ws = c.self.inside.waits in
    let held = c.read_raw.new.waits in
    let value = c.len-before.ensures.value in
    let r = c.read_raw.ensures in
    let few : length ws ≤ 64 = omega (arith, value, c.len-before.ensures.fits) in
    c.truncate.ensures ∙ ap (λ n. take n held) value ∙ cut_back ws r.0 held c.read_raw.result r.2 few

pub invariant_of-self : goal.invariant_of-self
invariant_of-self c = subst (λ (l : List Waiting). AreLawful (arrivals_of l)) (sym (cut c)) c.self.invariant

pub returns-then-read_raw-gt64 : goal.returns-then-read_raw-gt64
returns-then-read_raw-gt64 c =
    let i = c.self.inside in
    let r = c.read_raw.ensures in
    subst (λ (t : Connected). JoinsRaw t (holding c.truncate.new.self i.is_broken i.reader.value) c.args.bytes.now false) c.self.view_is
    (raw_crowds i.waits c.read_raw.new.waits i.is_broken i.reader.value c.duplicate-reader.result c.read_raw.new.reader c.args.bytes.now r.0 c.read_raw.result
    (subst HasBegun c.deref.ensures c.is_stopped-stopped.ensures.begun) (c.duplicate-reader.ensures.value ∙ c.deref-2.ensures) r.1 r.2 c.if-read_raw-gt64.true c.truncate.new.self (cut c))

pub invariant_of-self-2 : goal.invariant_of-self-2
invariant_of-self-2 c =
    let i = c.self.inside in
    let r = c.read_raw.ensures in
    raw_lawful i.waits c.read_raw.new.waits i.is_broken i.reader.value c.duplicate-reader.result c.read_raw.new.reader c.args.bytes.now r.0 c.read_raw.result
    (subst HasBegun c.deref.ensures c.is_stopped-stopped.ensures.begun) (c.duplicate-reader.ensures.value ∙ c.deref-2.ensures) r.1 r.2 c.if-read_raw-gt64.false c.self.invariant

pub returns : goal.returns
returns c =
    let i = c.self.inside in
    let r = c.read_raw.ensures in
    subst (λ (t : Connected). JoinsRaw t (holding c.read_raw.new.waits i.is_broken c.read_raw.new.reader) c.args.bytes.now true) c.self.view_is
    (raw_joins i.waits c.read_raw.new.waits i.is_broken i.reader.value c.duplicate-reader.result c.read_raw.new.reader c.args.bytes.now r.0 c.read_raw.result
    (subst HasBegun c.deref.ensures c.is_stopped-stopped.ensures.begun) (c.duplicate-reader.ensures.value ∙ c.deref-2.ensures) r.1 r.2 c.if-read_raw-gt64.false)
