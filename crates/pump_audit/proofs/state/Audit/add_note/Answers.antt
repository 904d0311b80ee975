use Rattle.std.proofs.Common.{refl, sym, subst, ◌∙◌, List}
use Rattle.pump_core.specs.Replies.{Sent}
use Rattle.pump_audit.specs.declared.form.RecordPlace.TheVariants as places
use Rattle.pump_audit.specs.Auditing.{form_of_audit}
use Rattle.pump_audit.specs.Places.{is_taken, takes_looks, takes_times}
use Rattle.pump_audit.specs.Records.{AreTold}
use Rattle.pump_audit.proofs.AuditLaws.{may_stand, none_owed, note_untold, tells_none, told_none}
use Rattle.pump_audit.proofs.state.Audit.add_note.Goals as goal

pub returns-in-Low-clause-is : goal.returns-in-Low-clause-is
returns-in-Low-clause-is c r was = rw c.in-Low.is (c.add_low.ensures.is r was)

pub returns-then-is_some-clause-is : goal.returns-then-is_some-clause-is
returns-then-is_some-clause-is c r was = (
  refl,
  λ told. note_untold c.args.self.now r was (sym c.is_some.ensures ∙ c.if-is_some.true)
      (subst (λ (ts : List Sent). AreTold r ts) (tells_none c.args.note.now c.in_default.not-Low) told),
)

pub add_time-requires : goal.add_time-requires
add_time-requires c = record {
  owed = none_owed c.args.self.now.owed (sym c.is_some.ensures ∙ c.if-is_some.false);
  place = may_stand (form_of_audit c.args.self.now) (takes_times c.args.self.now.place) places.Times (rw c.in-Time.is at c.requires.place);
  lines = c.requires.lines;
  micros = rw c.in-Time.is at c.requires.range;
}

pub returns-in-Time : goal.returns-in-Time
returns-in-Time c = record {
  is = λ r was. rw c.in-Time.is (told_none c.args.self.now r was (none_owed c.args.self.now.owed (sym c.is_some.ensures ∙ c.if-is_some.false)), c.add_time.ensures.is r was);
  more = c.add_time.ensures.more;
}

pub add_taken-requires : goal.add_taken-requires
add_taken-requires c = record {
  owed = none_owed c.args.self.now.owed (sym c.is_some.ensures ∙ c.if-is_some.false);
  place = may_stand (form_of_audit c.args.self.now) (takes_times c.args.self.now.place) places.Taken (rw c.in-Took.is at c.requires.place);
  lines = c.requires.lines;
}

pub returns-in-Took : goal.returns-in-Took
returns-in-Took c = record {
  is = λ r was. rw c.in-Took.is (told_none c.args.self.now r was (none_owed c.args.self.now.owed (sym c.is_some.ensures ∙ c.if-is_some.false)), c.add_taken.ensures.is r was);
  more = c.add_taken.ensures.more;
}

pub add_end-requires : goal.add_end-requires
add_end-requires c = record {
  owed = none_owed c.args.self.now.owed (sym c.is_some.ensures ∙ c.if-is_some.false);
  place = may_stand (form_of_audit c.args.self.now) (is_taken c.args.self.now.place) places.End (rw c.in-End.is at c.requires.place);
  lines = c.requires.lines;
}

pub returns-in-End : goal.returns-in-End
returns-in-End c = record {
  is = λ r was. rw c.in-End.is (told_none c.args.self.now r was (none_owed c.args.self.now.owed (sym c.is_some.ensures ∙ c.if-is_some.false)), c.add_end.ensures.is r was);
  more = c.add_end.ensures.more;
}

pub returns-in-Low-note : goal.returns-in-Low-note
returns-in-Low-note c = absurd (c.in_default.not-Low _ _ _ c.in-Low-note.is)

pub add_low-requires : goal.add_low-requires
add_low-requires c = record {
  place = may_stand (form_of_audit c.args.self.now) (takes_looks c.args.self.now.place) places.Looks (rw c.in-Low.is at c.requires.place);
  lines = c.requires.lines;
}
