-- A look, from its first half and what the end answered.
use Rattle.std.proofs.Common.{◌≡◌, Bool, false, Option, IfSome, sym, ◌∙◌, ap, subst, option_map, rules}
use Rattle.pump_frame.specs.declared.row.SessionRow.{SessionRow}
use Rattle.pump_frame.specs.declared.frame.Item.{Item}
use Rattle.pump_core.specs.ReplyFrames.{frame_of, IsLawfulReply}
use Rattle.pump_core.specs.Passage.{ComesNext}
use Rattle.low_process.specs.Heads.{look_with}
use Rattle.low_process.specs.Ends.{EndStep, StandsFitting, number_offered}
use Rattle.low_process.specs.Looks.{arrival_of, is_down, hand_of, hand_passed, hand_stored, next_of, StandsFor, AsksFor, Looks, look_of, row_of}
use Rattle.low_process.proofs.Looking.{look_from}
use Rattle.low_process.proofs.process.LowProcess.look_by.Goals as goal

goes_on : (b c e : Bool) → b ≡ false → c ≡ false → b ≡ e → c ≡ e
goes_on b c e is_up stays falls = stays ∙ sym is_up ∙ falls

pub returns-in-Forward : goal.returns-in-Forward
returns-in-Forward g c =
    let a = arrival_of c.args.arrival in
    let p = c.args.self.now in
    let r = c.begin_into.new.self in
    let q = c.offer_hand.new.self in
    let head = c.offer_hand.new.head in
    let b = c.begin_into.ensures in
    let e = c.offer_hand.ensures in
    let rest = e.rest in
    let hand = c.in-Forward.ensures.hand in
    let begun = c.in-Forward.ensures.begins in
    let d = begun.0 in
    let step = begun.1 in
    let up : is_down r ≡ false = hand.3 in
    let silent = ap (option_map (frame_of (row_of p).id)) rest.reply in
    record {
      looks = (
        d,
        record {
          looks = subst (λ (row : SessionRow). Looks (StandsFor p) q (row_of p) (look_of c.args.moment c.args.word a d head.feedback) (look_with row head)) b.row
              (look_from (λ h. AsksFor r h c.args.moment c.args.word a d) (StandsFor p) _ _ _ _ _ b.row step.begins.1 (e.looks c.args.moment c.args.word a d));
          keeps = step.keeps;
          count = rest.next ∙ step.count;
          falls = goes_on (is_down r) (is_down q) _ up rest.up step.falls;
          refuses = λ is. (let none = sym silent ∙ is in absurd (cc));
        },
      );
      bounds = rest.bounds;
      store = λ _. (let s = b.store up in record { ready = s.ready; count = s.count ∙ sym rest.next; row = s.row ∙ sym rest.row });
      images = b.images;
      still = b.still;
      silent = λ _. silent;
      acknowledged = λ n is. (let none = sym silent ∙ is in absurd (cc));
      lawful = subst (λ o. IfSome o IsLawfulReply) (sym rest.reply) tt;
      hand = rest.hand ∙ ap (λ (o : Option Item). hand_passed o head.feedback) (hand.1 ∙ sym hand.0) ∙ sym (ap (hand_stored (hand_passed (hand_of p) head.feedback) a) rest.stored);
      row = rest.row ∙ b.row;
      last = rest.last ∙ b.last;
      shape = e.shape;
      place = e.place;
      ends = λ l h fit.
          (let comes = subst (λ (o : Option Item). ComesNext l.forwarded (number_offered (next_of r) o)) hand.1 (b.fits l fit.1 up) in
          subst (λ (o : Option Item). EndStep (g.L.LowSide.shape c.args.ends.now) g.L.LowSide.on_one_thread (StandsFitting (g.L.LowSide.stands c.offer_hand.new.ends) q) l h o head.feedback) (sym hand.0)
          (e.ends l h fit.0 comes));
    }

pub returns-in-Average : goal.returns-in-Average
returns-in-Average g c =
    let a = arrival_of c.args.arrival in
    let p = c.args.self.now in
    let r = c.begin_into.new.self in
    let q = c.finish_into.new.self in
    let head = c.finish_into.new.head in
    let b = c.begin_into.ensures in
    let e = c.finish_into.ensures in
    let hand = c.in-Average.ensures.hand in
    let begun = c.in-Average.ensures.begins in
    let d = begun.0 in
    let step = begun.1 in
    let up : is_down r ≡ false = hand.2 in
    let silent = ap (option_map (frame_of (row_of p).id)) e.reply in
    record {
      looks = (
        d,
        record {
          looks = subst (λ (row : SessionRow). Looks (StandsFor p) q (row_of p) (look_of c.args.moment c.args.word a d head.feedback) (look_with row head)) b.row
              (look_from (λ h. AsksFor r h c.args.moment c.args.word a d) (StandsFor p) _ _ _ _ _ b.row step.begins.1 (e.looks c.args.moment c.args.word a d));
          keeps = step.keeps;
          count = e.next ∙ step.count;
          falls = goes_on (is_down r) (is_down q) _ up e.up step.falls;
          refuses = λ is. (let none = sym silent ∙ is in absurd (cc));
        },
      );
      bounds = e.bounds;
      store = λ _. (let s = b.store up in record { ready = s.ready; count = s.count ∙ sym e.next; row = s.row ∙ sym e.row });
      images = b.images;
      still = b.still;
      silent = λ _. silent;
      acknowledged = λ n is. (let none = sym silent ∙ is in absurd (cc));
      lawful = subst (λ o. IfSome o IsLawfulReply) (sym e.reply) tt;
      hand = e.hand ∙ ap (λ (o : Option Item). hand_passed o head.feedback) (hand.1 ∙ sym hand.0) ∙ sym (ap (hand_stored (hand_passed (hand_of p) head.feedback) a) e.stored);
      row = e.row ∙ b.row;
      last = e.last ∙ b.last;
      shape = c.average.ensures.shape;
      place = c.average.ensures.place;
      ends = search rules;
    }
