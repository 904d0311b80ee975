use Rattle.std.proofs.Common.{Ok, Err, false, true, ◌≡◌, ℕ, length, refl, ◌∙◌, ap, subst}
use Rattle.file_messages.specs.Files.{Between, state_after, after}
use Rattle.file_messages.specs.Messages.{message_of}
use Rattle.file_collector.specs.Gathering.{Places}
use Rattle.file_collector.proofs.Collects.{begun_after, has_placed, place_fits}
use Rattle.file_collector.proofs.collector.Collector.place.Goals as goal

pub returns-in-Ok-clause-placed : goal.returns-in-Ok-clause-placed
returns-in-Ok-clause-placed g c = λ messages has.
    let mi = g.I.Inbox.told in
    let md = g.I.Disk.Disk.told in
    let state = state_after Between messages in
    let number : c.taken-number.result ≡ length messages = c.taken-number.ensures ∙ ap (λ (v : ℕ × ℕ). v.0) has.kept.value in
    has_placed mi md c.args.self.now c.place.new.self messages c.args.message.now c.in-Ok.placed has (c.place.ensures.assembly state has.gathering)
    (subst (λ n. Places mi md n c.args.message.now state c.args.self.now.gatherer c.place.new.self (Ok c.in-Ok.placed)) number (c.in-Ok.ensures.places state has.gathering))

pub returns-in-Ok-clause-fits : goal.returns-in-Ok-clause-fits
returns-in-Ok-clause-fits g c = λ messages has.
    let mi = g.I.Inbox.told in
    let md = g.I.Disk.Disk.told in
    let state = state_after Between messages in
    let number : c.taken-number.result ≡ length messages = c.taken-number.ensures ∙ ap (λ (v : ℕ × ℕ). v.0) has.kept.value in
    let s = c.args.self.now in
    place_fits mi md s (record { gatherer = c.place.new.self; register = s.register; is_placed = true; is_open = s.is_open; lost = s.lost }) messages c.args.message.now (Ok c.in-Ok.placed) has refl
    (subst (λ n. Places mi md n c.args.message.now state s.gatherer c.place.new.self (Ok c.in-Ok.placed)) number (c.in-Ok.ensures.places state has.gathering))

pub returns-in-Err-clause-fits : goal.returns-in-Err-clause-fits
returns-in-Err-clause-fits g c = λ messages has.
    let mi = g.I.Inbox.told in
    let md = g.I.Disk.Disk.told in
    let state = state_after Between messages in
    let number : c.taken-number.result ≡ length messages = c.taken-number.ensures ∙ ap (λ (v : ℕ × ℕ). v.0) has.kept.value in
    let s = c.args.self.now in
    place_fits mi md s (record { gatherer = c.place.new.self; register = s.register; is_placed = s.is_placed; is_open = false; lost = s.lost }) messages c.args.message.now (Err c.in-Err.fault) has refl
    (subst (λ n. Places mi md n c.args.message.now state s.gatherer c.place.new.self (Err c.in-Err.fault)) number (c.in-Err.ensures.places state has.gathering))

pub returns-in-Ok-clause-ready : goal.returns-in-Ok-clause-ready
returns-in-Ok-clause-ready g c =
    let was = c.requires.ready in
    let message = c.args.message.now in
    let places = c.in-Ok.ensures.places was.state was.gathering in
    record {
      is_open = was.is_open;
      placed = refl;
      state = after was.state (message_of message);
      assembly = c.place.ensures.assembly was.state was.gathering;
      come = places.come;
      begun = begun_after was.state message was.gathering.begun;
      register = was.register;
    }
