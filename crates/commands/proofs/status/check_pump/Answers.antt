use Rattle.std.proofs.Common.{◌≡◌, ◌∙◌, sym, subst, true, false}
use Rattle.std.proofs.lemmas.Bool.{eqb-true, eqb-false}
use Rattle.disk_model.specs.declared.name.Role.TheVariants.{Low, High}
use Rattle.commands.specs.ReadDisks.{Holds}
use Rattle.commands.specs.Telling.{kind, RefusesPump}
use Rattle.commands.proofs.Told.{pump_fine, pump_apart, pump_refused, high_works, no_device, holds_register}
use Rattle.commands.proofs.status.check_pump.Goals as goal

pub returns-in-Ok-open_pump : goal.returns-in-Ok-open_pump
returns-in-Ok-open_pump c =
    let row = c.args.row.now in
    let o = c.in-Ok-open_pump.ensures in
    let fine = pump_fine row c.args.low.bytes c.args.high.bytes (o.fine tt) in
    let low = subst (Holds c.args.low.bytes) (sym c.into_disk.ensures) (record { same = o.moves_low.reads tt; calm = o.calls_low.disarmed tt }) in
    let high = subst (Holds c.args.high.bytes) (sym c.into_disk-in-Ok-open_pump.ensures) (record { same = o.moves_high.reads tt; calm = (high_works row c.args.low c.args.high c.in-Ok-open_pump.opened.high.register.disk false o.calls_high c.requires.high).0 }) in
    record {
      fine = fine;
      same = (low, high);
      whole = (holds_register row Low c.args.low.bytes c.into_disk.result fine.0 low, holds_register row High c.args.high.bytes c.into_disk-in-Ok-open_pump.result fine.1 high);
      refused = tt;
    }

pub returns-then-is_of_two : goal.returns-then-is_of_two
returns-then-is_of_two c =
    let row = c.args.row.now in
    let e = c.in-Err.ensures in
    let r = c.in-Err.refused in
    let one : kind r.why ≡ 1 = eqb-true (kind r.why) 1 (sym c.is_of_two.ensures ∙ c.if-is_of_two.true) in
    let works = high_works row c.args.low c.args.high r.high _ e.calls_high c.requires.high in
    let calm = no_device r.role r.why e.role (e.calls_low.never tt c.requires.low) works.1 in
    let fine = pump_apart row c.args.low.bytes c.args.high.bytes r.role r.why one (e.exact calm tt) in
    let low : Holds c.args.low.bytes r.low = record { same = e.moves_low.reads tt; calm = e.calls_low.disarmed tt } in
    let high : Holds c.args.high.bytes r.high = record { same = e.moves_high.reads tt; calm = works.0 } in
    record {
      fine = fine;
      same = (low, high);
      whole = (holds_register row Low c.args.low.bytes r.low fine.0 low, holds_register row High c.args.high.bytes r.high fine.1 high);
      refused = tt;
    }

pub returns : goal.returns
returns c =
    let row = c.args.row.now in
    let e = c.in-Err.ensures in
    let r = c.in-Err.refused in
    let apart = eqb-false (kind r.why) 1 (sym c.is_of_two.ensures ∙ c.if-is_of_two.false) in
    let works = high_works row c.args.low c.args.high r.high _ e.calls_high c.requires.high in
    let calm = no_device r.role r.why e.role (e.calls_low.never tt c.requires.low) works.1 in
    record {
      fine = tt;
      same = tt;
      whole = tt;
      refused = subst (RefusesPump row c.args.low.bytes c.args.high.bytes) (sym c.end_at.ensures) (pump_refused row c.args.low.bytes c.args.high.bytes r.role r.why apart calm (e.exact calm tt));
    }
