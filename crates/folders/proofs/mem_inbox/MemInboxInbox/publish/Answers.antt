use Rattle.std.proofs.Common.{◌∙◌, ap}
use Rattle.folders.specs.MemInbox.{is_other_in, is_free_in}
use Rattle.folders.specs.declared.mem_inbox.MemInbox.{MemInbox}
use Rattle.folders.proofs.Free.{taken_now, free_as_before}
use Rattle.folders.proofs.Lengths.{shown_length}
use Rattle.folders.proofs.mem_inbox.MemInboxInbox.publish.Goals as goal

pub text_of-name-requires : goal.text_of-name-requires
text_of-name-requires g c = shown_length c.args.name.now c.requires.lawful

pub returns-then-fails-clause-others : goal.returns-then-fails-clause-others
returns-then-fails-clause-others g c = λ told other differ.
    let was = c.is_failing-fails.ensures in
    let old = c.is_failing-fails.new.self in
    let e = c.in_ok-put.ensures in
    ap (λ (i : MemInbox _). is_free_in i other) (c.fault.ensures.value)
    ∙ ap (λ (i : MemInbox _). is_free_in i other) e.same
    ∙ free_as_before old.shown.items c.put.new.self.shown.items (record { name = c.text_of-name.result; disk = c.args.part }) (is_other_in old other) c.args.name.now other e.put c.text_of-name.ensures differ
    ∙ ap (λ (i : MemInbox _). is_free_in i other) was

pub returns-clause-taken : goal.returns-clause-taken
returns-clause-taken g c = λ told.
    let old = c.is_failing-fails.new.self in
    let e = c.in_ok-put.ensures in
    ap (λ (i : MemInbox _). is_free_in i c.args.name.now) e.same
    ∙ taken_now old.shown.items c.put.new.self.shown.items (record { name = c.text_of-name.result; disk = c.args.part }) (is_other_in old c.args.name.now) c.args.name.now e.put c.text_of-name.ensures

pub returns-clause-others : goal.returns-clause-others
returns-clause-others g c = λ told other differ.
    let was = c.is_failing-fails.ensures in
    let old = c.is_failing-fails.new.self in
    let e = c.in_ok-put.ensures in
    ap (λ (i : MemInbox _). is_free_in i other) e.same
    ∙ free_as_before old.shown.items c.put.new.self.shown.items (record { name = c.text_of-name.result; disk = c.args.part }) (is_other_in old other) c.args.name.now other e.put c.text_of-name.ensures differ
    ∙ ap (λ (i : MemInbox _). is_free_in i other) was
