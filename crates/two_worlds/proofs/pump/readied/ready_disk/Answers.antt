use Rattle.std.proofs.Common.{◌≡◌, List, ℕ, [], ap, inl, inr, sym, ◌∙◌}
use Rattle.two_worlds.specs.Openings.{readied}
use Rattle.two_worlds.proofs.Opening.Readies.{kept_reading, empty_reading, sized, unsized, formatted, unformatted}
use Rattle.stable_buffer.specs.Format.{size_of}
use Rattle.two_worlds.proofs.pump.readied.ready_disk.Goals as goal

-- ---- it has a byte ----

pub returns-in-Ok-clause-reading : goal.returns-in-Ok-clause-reading
returns-in-Ok-clause-reading g c = λ told.
    let m = g.D.Disk.told in
    kept_reading c.args.row.now c.args.role (m.reading c.args.disk) (m.reading c.size.new.self) c.in-Ok.field-0 (c.size.ensures.moves.reads told) (c.in-Ok.ensures.size told) c.in-Ok.field-0-test.1

pub returns-in-Ok-clause-left : goal.returns-in-Ok-clause-left
returns-in-Ok-clause-left g c = inl c.size.ensures.moves

pub returns-in-Ok-clause-answers : goal.returns-in-Ok-clause-answers
returns-in-Ok-clause-answers g c = sized g.D.Disk.told _ c.args.disk c.size.new.self c.in-Ok.field-0 c.size.new.self c.in-Ok.ensures.answers

-- ---- it tells no size ----

pub returns-in-Err-clause-left : goal.returns-in-Err-clause-left
returns-in-Err-clause-left g c = inl c.size.ensures.moves

pub returns-in-Err-clause-answers : goal.returns-in-Err-clause-answers
returns-in-Err-clause-answers g c = unsized g.D.Disk.told _ c.args.disk c.size.new.self _ (c.size.new.self, record { faults = c.faults-faults.result }) c.in-Err.ensures.answers

-- ---- it is empty ----

pub returns-in-Ok-format-clause-reading : goal.returns-in-Ok-format-clause-reading
returns-in-Ok-format-clause-reading g c = λ told.
    let m = g.D.Disk.told in
    let none : m.reading c.args.disk ≡ [] = empty_reading (m.reading c.args.disk) (m.reading c.size.new.self) c.in-Ok-eq0.field-0 (c.size.ensures.moves.reads told) (c.in-Ok-eq0.ensures.size told) c.in-Ok-eq0.field-0-test in
    c.in-Ok-format.ensures.bytes told ∙ ap (λ (bytes : List ℕ). readied c.args.row.now c.args.role bytes) (sym none)

pub returns-in-Ok-format-clause-left : goal.returns-in-Ok-format-clause-left
returns-in-Ok-format-clause-left g c =
    let m = g.D.Disk.told in
    inr (λ told. (empty_reading (m.reading c.args.disk) (m.reading c.size.new.self) c.in-Ok-eq0.field-0 (c.size.ensures.moves.reads told) (c.in-Ok-eq0.ensures.size told) c.in-Ok-eq0.field-0-test, λ fine. c.in-Ok-format.ensures.bytes told))

pub returns-in-Ok-format-clause-answers : goal.returns-in-Ok-format-clause-answers
returns-in-Ok-format-clause-answers g c =
    formatted g.D.Disk.told (size_of c.args.row.now c.args.role) c.args.disk c.size.new.self c.format.new.disk c.in-Ok-eq0.field-0 c.in-Ok-eq0.ensures.answers _ c.format.new.disk c.in-Ok-format.ensures.answers

pub returns-in-Err-format-clause-left : goal.returns-in-Err-format-clause-left
returns-in-Err-format-clause-left g c =
    let m = g.D.Disk.told in
    inr (λ told. (empty_reading (m.reading c.args.disk) (m.reading c.size.new.self) c.in-Ok-eq0.field-0 (c.size.ensures.moves.reads told) (c.in-Ok-eq0.ensures.size told) c.in-Ok-eq0.field-0-test, λ fine. absurd (cc)))

pub returns-in-Err-format-clause-answers : goal.returns-in-Err-format-clause-answers
returns-in-Err-format-clause-answers g c =
    unformatted g.D.Disk.told (size_of c.args.row.now c.args.role) c.args.disk c.size.new.self c.format.new.disk c.in-Ok-eq0.field-0 c.in-Ok-eq0.ensures.answers c.in-Err-format.device (c.format.new.disk, c.in-Err-format.device) c.in-Err-format.ensures.answers
