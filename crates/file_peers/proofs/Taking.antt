-- What becomes of the next message.
use Rattle.std.proofs.Common.{◌≡◌, ℕ, ◌<◌, ◌≤◌, ◌^◌, ◌==◌, ◌&&◌, nat_le, true, false, List, [], ◌∷◌, ◌++◌, length, Option, Some, None, Ok, refl, sym, ap, ◌∙◌, subst, append-nil, arith}
use Rattle.disk_model.specs.Disk.{Meaning}
use Rattle.std.proofs.lemmas.Bool.{and_parts}
use Rattle.pump_frame.specs.Frames.{IsForm, IsLawful}
use Rattle.pump_frame.specs.Spellings.{spelling}
use Rattle.pump_frame.specs.declared.frame.Kind.{Kind}
use Rattle.pump_frame.specs.declared.frame.Frame.{Frame}
use Rattle.pump_frame.specs.declared.frame.Kind.TheVariants.{Hello, Welcome, Data, Ack, Refuse, Attach, Taken}
use Rattle.pump_frame.specs.declared.row.SessionRow.{SessionRow}
use Rattle.stable_buffer.specs.Register.{register_disk}
use Rattle.file_messages.specs.Files.{Between, state_after}
use Rattle.folders.specs.Placing.{Placing}
use Rattle.file_collector.specs.Gathering.{IsWhyNot, Places}
use Rattle.file_collector.specs.Collecting.{HasTaken, AlwaysFits, taken_count}
use Rattle.file_collector.specs.declared.collector.Collector.{Collector}
use Rattle.file_collector.specs.declared.values.Placed.{Placed}
use Rattle.file_collector.specs.declared.values.PlaceFault.{PlaceFault}
use Rattle.peers.specs.Outputs.{plain_frame}
use Rattle.peers.specs.Receiving.{is_data, is_wanted}
use Rattle.file_peers.specs.declared.collect.CollectEnd.{CollectEnd}
use Rattle.file_peers.specs.declared.collect.CollectEnd.TheVariants.{Ended, Looks, Write, Folder, NameTaken, Device, Ahead}
use Rattle.file_peers.specs.Collecting.{Turn, Passed, Took, Again, frame_in, answer_in, line_in}
use Rattle.file_peers.specs.Taking.{MakesTurn, IsAnswered, TakesNext, TakesFrame}
use Rattle.file_peers.proofs.Stepping.{counts_on, passes_none, passes_step, passes_then, shows_in}

pub taken_is : {I D : Type 0} (mi : Placing I) (md : Meaning D) (messages : List (List ℕ)) (c : Collector I D) → HasTaken mi md c messages → taken_count c ≡ length messages
taken_is mi md messages c has = ap (λ (v : ℕ × ℕ). v.0) has.kept.value

-- the number of a DATA is below 2^48
below_by : (kind : Kind) (number : ℕ) (payload : List ℕ) → IsForm kind number payload → is_data kind ≡ true → number < 2 ^ 48
below_by Hello number payload form data_is = cc
below_by Welcome number payload form data_is = cc
below_by Data number payload form data_is = form.0
below_by Ack number payload form data_is = cc
below_by Refuse number payload form data_is = cc
below_by Attach number payload form data_is = cc
below_by Taken number payload form data_is = cc

pub data_below : (row : SessionRow) (f : Frame) → IsLawful f → is_wanted row f ≡ true → f.number < 2 ^ 48
data_below row f lawful wanted = below_by f.kind f.number f.payload lawful.form (and_parts (is_data f.kind) (f.session == row.id && nat_le (length f.payload) row.message) wanted).0

module _ {I D : Type 0} (mi : Placing I) (md : Meaning D) (row : SessionRow) (before : List (List ℕ)) (f : Frame) where
  pub count_is : (c : Collector I D) → HasTaken mi md c before → taken_count c ≡ length before
  count_is c has = taken_is mi md before c has

  pub why_not : (old new : Collector I D) (fault other : PlaceFault) → fault ≡ other → IsWhyNot mi md (length before) (state_after Between before) old.gatherer new.gatherer fault
      → IsWhyNot mi md (length before) (state_after Between before) old.gatherer new.gatherer other
  why_not old new fault other is why = subst (λ (x : PlaceFault). IsWhyNot mi md (length before) (state_after Between before) old.gatherer new.gatherer x) is why

  -- the message was placed and counted
  pub made : (old mid new : Collector I D) (placed : Placed) → is_wanted row f ≡ true → f.number ≡ length before → Places mi md (length before) f.payload (state_after Between before) old.gatherer mid.gatherer (Ok placed)
      → new.gatherer.inbox ≡ mid.gatherer.inbox → mid.register ≡ old.register → md.count (register_disk mid.register) ≤ md.count (register_disk new.register) → HasTaken mi md new (before ++ f.payload ∷ []) → AlwaysFits mi md (before ++ f.payload ∷ []) old mid → AlwaysFits mi md (before ++ f.payload ∷ []) mid new
      → MakesTurn mi md row before (Took f placed) old new
  made old mid new placed wanted next places same kept counts taken one two = record {
    turn = (wanted, next, places.answer);
    taken = taken;
    shown = λ told tells. ap mi.shown same ∙ shows_in mi old.gatherer.inbox mid.gatherer.inbox (length before) (state_after Between before) placed (places.shown told tells);
    later = record {
      inbox = (let later = places.later in let count = ap mi.count same in omega (arith, later, count));
      register = subst (λ r. md.count (register_disk r) ≤ md.count (register_disk new.register)) kept counts;
    };
    passes = passes_then mi md _ old mid new (passes_step mi md _ old mid one) (passes_step mi md _ mid new two);
  }

  -- the message ended the call
  pub next_ends : (old new : Collector I D) (printed : List ℕ) (link now_link out now_out : ℕ) (end : CollectEnd) → TakesNext mi md row before f old new printed out now_out (Some end)
      → TakesFrame mi md row before f old new (record { sent = []; printed = printed }) (record { link = link; now_link = now_link; out = out; now_out = now_out; other = 0; now_other = 0 }) (Some end)
  next_ends old new printed link now_link out now_out Write (placed, made, prefix, rose) = (Took f placed, refl, made, refl, prefix, rose)
  next_ends old new printed link now_link out now_out (Folder faults) (fails, none) = (fails, (refl, none))
  next_ends old new printed link now_link out now_out (NameTaken number) (fails, is, none) = (fails, is, (refl, none))
  next_ends old new printed link now_link out now_out (Device faults) (fails, none) = (fails, (refl, none))
  next_ends old new printed link now_link out now_out Ended ends = absurd ends
  next_ends old new printed link now_link out now_out Looks ends = absurd ends
  next_ends old new printed link now_link out now_out (Ahead number count) ends = absurd ends

  -- a turn was answered
  pub turn_answered : (old new : Collector I D) (t : Turn) (sent printed : List ℕ) (link now_link out now_out : ℕ) (end : Option CollectEnd) → frame_in t ≡ f → MakesTurn mi md row before t old new
      → answer_in row.id t ≡ spelling (plain_frame Taken row.id f.number) → printed ≡ line_in row.id t → IsAnswered row.id f.number sent link now_link end
      → TakesFrame mi md row before f old new (record { sent = sent; printed = printed }) (record { link = link; now_link = now_link; out = out; now_out = now_out; other = 0; now_other = 0 }) end
  turn_answered old new t sent printed link now_link out now_out None is made answers line answered = (t, is, made, answered ∙ sym answers, line)
  turn_answered old new t sent printed link now_link out now_out (Some Ended) is made answers line ((rest, prefix), rose) = (t, is, made, (rest, answers ∙ prefix), line, rose)
  turn_answered old new t sent printed link now_link out now_out (Some Looks) is made answers line answered = absurd answered
  turn_answered old new t sent printed link now_link out now_out (Some Write) is made answers line answered = absurd answered
  turn_answered old new t sent printed link now_link out now_out (Some (Folder faults)) is made answers line answered = absurd answered
  turn_answered old new t sent printed link now_link out now_out (Some (NameTaken number)) is made answers line answered = absurd answered
  turn_answered old new t sent printed link now_link out now_out (Some (Device faults)) is made answers line answered = absurd answered
  turn_answered old new t sent printed link now_link out now_out (Some (Ahead number count)) is made answers line answered = absurd answered

  pub passed : (c : Collector I D) → HasTaken mi md c before → is_wanted row f ≡ false → MakesTurn mi md row before (Passed f) c c
  passed c has other = record {
    turn = other;
    taken = subst (λ (ms : List (List ℕ)). HasTaken mi md c ms) (sym (append-nil before)) has;
    shown = λ told tells. sym (append-nil (mi.shown c.gatherer.inbox));
    later = counts_on mi md c;
    passes = passes_none mi md (before ++ []) c;
  }

  pub there : (c : Collector I D) → HasTaken mi md c before → is_wanted row f ≡ true → f.number < length before → MakesTurn mi md row before (Again f) c c
  there c has wanted low = record {
    turn = (wanted, low);
    taken = subst (λ (ms : List (List ℕ)). HasTaken mi md c ms) (sym (append-nil before)) has;
    shown = λ told tells. sym (append-nil (mi.shown c.gatherer.inbox));
    later = counts_on mi md c;
    passes = passes_none mi md (before ++ []) c;
  }
