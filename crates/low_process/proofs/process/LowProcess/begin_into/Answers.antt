use Rattle.std.proofs.Common.{ℕ, List, Option, sym, subst, ◌∙◌, rules}
use Rattle.pump_core.specs.Passage.{ComesNext}
use Rattle.low_process.specs.Looks.{arrival_of, is_down}
use Rattle.low_process.specs.Heads.{ask_with}
use Rattle.low_process.specs.Storing.{StoreStep, message_in}
use Rattle.low_process.proofs.Looking.{begun}
use Rattle.low_process.proofs.Effects.{begun_so, acknowledges_so, refuses_so}
use Rattle.low_process.proofs.Keeping.{store_kept, counts_so, falls_by, neither, look_images, beyond}
use Rattle.low_process.proofs.process.LowProcess.begin_into.Goals as goal

pub returns : goal.returns
returns g c =
    let m = g.D.Disk.told in
    let p = c.args.self.now in
    let q = c.step.new.self in
    let a = arrival_of c.args.arrival in
    let d = c.store_message-is_fault.result in
    let old = c.args.store.now in
    let new = c.store_message-is_fault.new.store in
    let e = c.step.ensures in
    let ask = ask_with p.row q c.step.new.head c.step.result in
    let keeps : StoreStep m (message_in p a) old new d = subst (λ (t : Option (List ℕ)). StoreStep m t old new d) c.wanted-message.ensures c.store_message-is_fault.ensures in
    let so = begun_so p q c.args.moment c.args.word a d ask e.step in
    let kept = store_kept m p q a d old new so e.row keeps c.requires.store in
    let falls = falls_by m p q a d old new so keeps in
    record {
      begins = (
        d,
        record {
          begins = begun p q c.args.moment c.args.word a d ask e.step e.row e.last e.word c.requires.order;
          keeps = keeps;
          count = counts_so p q a d so;
          falls = falls;
          refuses = λ r. refuses_so p q c.args.moment c.args.word a d ask e.step r;
        },
      );
      store = kept;
      images = λ b messages. look_images m p old new a d c.requires.store keeps b messages;
      still = search rules;
      silent = search rules;
      acknowledged = λ n is. (let k = acknowledges_so p q c.args.moment c.args.word a d ask n e.step is in beyond m q new n kept k.1 k.0);
      lawful = e.lawful;
      hand = e.hand;
      fits = λ l fit up. subst (λ (n : ℕ). ComesNext l.forwarded n) (sym (e.offers up)) (fit (neither (is_down p) d (sym falls ∙ up)).0);
      row = e.row;
      last = e.last;
    }
