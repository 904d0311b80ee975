use Rattle.std.proofs.Common.{◌≡◌, ap, inl, inr, arith}
use Rattle.script_reader.specs.Heads.{line_with}
use Rattle.script_reader.specs.Lines.{LineReading}
use Rattle.script_reader.proofs.Heads.{unmapped}
use Rattle.script_reader.proofs.lines.Lines.first.Goals.{then-number-lt4294967295+in_default, else-number-lt4294967295}
use Rattle.script_reader.proofs.lines.Lines.first.Goals as goal

pub returns-clause-first : goal.returns-clause-first
returns-clause-first c =
    let here : c.self.inside.room ≡ c.args.self.now.held = ap (λ (r : LineReading). r.held) c.self.view_is in
    elim c.if-number-lt4294967295.branch [
      | then-number-lt4294967295+in_default w ↦ (inl (λ line h. unmapped (line_with w.read_head.new.body) w.read_head.result line w.in_default.not-Some (w.read_head.ensures.only line (rw (w.held.ensures.held, here) h))), c.refuse.ensures)
      | else-number-lt4294967295 w ↦ (inr (omega arith), c.refuse.ensures)
    ]
