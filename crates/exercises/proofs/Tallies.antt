-- What an exercise counts, line by line.
use Rattle.std.proofs.Common.{◌≡◌, ℕ, ◌+◌, ◌*◌, ◌<◌, ◌≤◌, Bool, true, false, zero, suc, List, [], ◌∷◌, ◌++◌, length, take, get_or, refl, sym, ap, ◌∙◌, subst, arith, append_assoc, length-append}
use Rattle.std.specs.Prelude.{if◌then◌else◌}
use Rattle.std.specs.List.{sum_by}
use Rattle.std.proofs.lemmas.List.{append-nil, map-append, take_more}
use Rattle.std.proofs.lemmas.List.Sums.{sum_by-cons, sum_by-append}
use Rattle.std.proofs.lemmas.Grind.{flat_map-append}
use Rattle.pump_frame.specs.declared.frame.Kind.{Kind}
use Rattle.pump_frame.specs.declared.frame.Kind.TheVariants.{Ack}
use Rattle.script_reader.specs.EventHeads.{event_of}
use Rattle.script_reader.specs.declared.event.EventHead.{EventHead}
use Rattle.script_reader.specs.declared.event.Event.{Event}
use Rattle.script_reader.specs.declared.event.Event.TheVariants.{Full, Passed, Low, Removed}
use Rattle.script_reader.specs.declared.line.Line.{Line}
use Rattle.script_reader.specs.declared.line.Line.TheVariants.{Look}
use Rattle.script_reader.specs.Generated.{Mark, timed, is_seventh, takings, message_lines, after_message, messages_from, early_lines, due_at, late_count, after_draws, message_word, empty_look}
use Rattle.two_worlds.specs.Printing.{lines_in}
use Rattle.exercises.specs.declared.exercising.Tally.{Tally}
use Rattle.exercises.specs.Exercises.{in_all, look_word, look_count, ack_kind_count, ack_count, full_count, removal_count, delay_in, delays_in}
use Rattle.exercises.specs.Exercising.{AddsEvents, Counts, IsAtMost, HasCounted}

-- ---- how much an event counts ----

kind_most : (k : Kind) → ack_kind_count k ≤ 1
kind_most Ack = omega arith
kind_most _ = omega arith

look_most : (line : Line) → look_count line ≤ 1
look_most (Look session moment word arrival) = omega arith
look_most _ = omega arith

ack_most : (e : Event) → ack_count e ≤ 1
ack_most (Low session moment reply) = kind_most reply.kind
ack_most _ = omega arith

full_most : (e : Event) → full_count e ≤ 1
full_most (Full session moment) = omega arith
full_most _ = omega arith

removal_most : (e : Event) → removal_count e ≤ 1
removal_most (Removed session moment number time) = omega arith
removal_most _ = omega arith

delay_most : (word : ℕ) (e : Event) → delay_in word e ≤ 100000
delay_most word (Passed session moment seen) = omega arith
delay_most word _ = omega arith

sum_most : (f : Event → ℕ) (k : ℕ) → ((e : Event) → f e ≤ k) → (events : List Event) → sum_by f events ≤ k * length events
sum_most f k most [] = omega arith
sum_most f k most (e ∷ events) = omega (arith, sum_by-cons f e events, most e, sum_most f k most events)

pub adds_within : (old new : Tally) (word : ℕ) (events : List Event) (n : ℕ) → AddsEvents old new word events → length events ≤ 4 → IsAtMost n old → IsAtMost (n + 400000) new
adds_within old new word events n a few within = record {
  looks = omega (arith, a.looks, within.looks);
  acks = omega (arith, a.acks, within.acks, sum_most ack_count 1 ack_most events, few);
  full = omega (arith, a.full, within.full, sum_most full_count 1 full_most events, few);
  removed = omega (arith, a.removed, within.removed, sum_most removal_count 1 removal_most events, few);
  delay = omega (arith, a.delay, within.delay, sum_most (delay_in word) 100000 (delay_most word) events, few);
}

pub within_more : (tally : Tally) (n k : ℕ) → n ≤ k → IsAtMost n tally → IsAtMost k tally
within_more tally n k le w = record {
  looks = omega (arith, w.looks, le);
  acks = omega (arith, w.acks, le);
  full = omega (arith, w.full, le);
  removed = omega (arith, w.removed, le);
  delay = omega (arith, w.delay, le);
}

-- ---- the events of a line ----

pub adds_none : (tally : Tally) (word : ℕ) → AddsEvents tally tally word []
adds_none tally word = record { looks = refl; acks = omega arith; full = omega arith; removed = omega arith; delay = omega arith }

adds_both : (old mid new : Tally) (word : ℕ) (events : List Event) (e : Event) → AddsEvents old mid word events → AddsEvents mid new word (e ∷ []) → AddsEvents old new word (events ++ e ∷ [])
adds_both old mid new word events e a b = record {
  looks = b.looks ∙ a.looks;
  acks = omega (arith, a.acks, b.acks, sum_by-append ack_count events (e ∷ []));
  full = omega (arith, a.full, b.full, sum_by-append full_count events (e ∷ []));
  removed = omega (arith, a.removed, b.removed, sum_by-append removal_count events (e ∷ []));
  delay = omega (arith, a.delay, b.delay, sum_by-append (delay_in word) events (e ∷ []));
}

pub adds_more : (old mid new : Tally) (word : ℕ) (heads : List EventHead) (i : ℕ) (d : EventHead) → i < length heads
    → AddsEvents old mid word (lines_in (take i heads)) → AddsEvents mid new word (event_of (get_or heads i d) ∷ []) → AddsEvents old new word (lines_in (take (i + 1) heads))
adds_more old mid new word heads i d below a b =
    let e : lines_in (take (i + 1) heads) ≡ lines_in (take i heads) ++ event_of (get_or heads i d) ∷ [] =
    ap lines_in (take_more heads i d below) ∙ map-append event_of (take i heads) (get_or heads i d ∷ []) in
    subst (AddsEvents old new word) (sym e) (adds_both old mid new word (lines_in (take i heads)) (event_of (get_or heads i d)) a b)

-- ---- the lines so far ----

delays-append : (lines : List Line) (printed : List (List Event)) (line : Line) (events : List Event) → length lines ≡ length printed
    → delays_in (lines ++ line ∷ []) (printed ++ events ∷ []) ≡ delays_in lines printed + sum_by (delay_in (look_word line)) events
delays-append [] [] line events e = omega arith
delays-append [] (p ∷ printed) line events e = absurd (omega (arith, e))
delays-append (x ∷ lines) [] line events e = absurd (omega (arith, e))
delays-append (x ∷ lines) (p ∷ printed) line events e = omega (arith, delays-append lines printed line events (omega (arith, e)))

pub in_all-more : (printed : List (List Event)) (events : List Event) → in_all (printed ++ events ∷ []) ≡ in_all printed ++ events
in_all-more printed events = flat_map-append (λ x. x) printed (events ∷ []) ∙ ap (λ l. in_all printed ++ l) (append-nil events)

sums_more : (f : Event → ℕ) (printed : List (List Event)) (events : List Event) → sum_by f (in_all (printed ++ events ∷ [])) ≡ sum_by f (in_all printed) + sum_by f events
sums_more f printed events = ap (sum_by f) (in_all-more printed events) ∙ sum_by-append f (in_all printed) events

pub counted_more : (old new : Tally) (lines : List Line) (printed : List (List Event)) (line : Line) (events : List Event) → length lines ≡ length printed
    → HasCounted old lines printed → Counts old new line events → HasCounted new (lines ++ line ∷ []) (printed ++ events ∷ [])
counted_more old new lines printed line events same h c =
    let few = c.few in
    let more : length (lines ++ line ∷ []) ≡ length lines + 1 = omega (arith, length-append lines (line ∷ [])) in
    record {
      looks = omega (arith, h.looks, c.looks, sum_by-append look_count lines (line ∷ []));
      acks = omega (arith, h.acks, c.acks, sums_more ack_count printed events);
      full = omega (arith, h.full, c.full, sums_more full_count printed events);
      removed = omega (arith, h.removed, c.removed, sums_more removal_count printed events);
      delay = omega (arith, h.delay, c.delay, delays-append lines printed line events same);
      within = record {
        looks = omega (arith, h.within.looks, c.looks, look_most line, more);
        acks = omega (arith, h.within.acks, c.acks, sum_most ack_count 1 ack_most events, few, more);
        full = omega (arith, h.within.full, c.full, sum_most full_count 1 full_most events, few, more);
        removed = omega (arith, h.within.removed, c.removed, sum_most removal_count 1 removal_most events, few, more);
        delay = omega (arith, h.within.delay, c.delay, sum_most (delay_in (look_word line)) 100000 (delay_most (look_word line)) events, few, more);
      };
    }

-- ---- how many lines there are ----

takings_length : (n : ℕ) (at : Mark) → length (takings n at) ≡ n
takings_length zero at = refl
takings_length (suc n) at = ap (λ x. suc x) (takings_length n (timed at))

early_length : (b : Bool) (xs : List Line) → length xs ≤ 2 → length (if b then xs else []) ≤ 2
early_length true xs h = h
early_length false xs h = omega arith

late_most : (b : Bool) → (if b then 6 else 0) ≤ 6
late_most true = omega arith
late_most false = omega arith

message_length : (number : ℕ) (at : Mark) → length (message_lines number at) ≤ 11
message_length number at =
    let late = takings (late_count number) (due_at number at) in
    let early = early_lines number (message_word at) (after_draws at) in
    let few = early_length (is_seventh number) (takings 1 (after_draws at) ++ empty_look (timed (after_draws at)).moment (message_word at) ∷ []) (omega arith) in
    omega (arith, few, length-append early (empty_look (due_at number at).moment (message_word at) ∷ late), takings_length (late_count number) (due_at number at), late_most (is_seventh number))

pub script_length : (n number : ℕ) (at : Mark) → length (messages_from n number at) ≤ 11 * n
script_length zero number at = omega arith
script_length (suc n) number at =
    omega (arith, message_length number at, script_length n (number + 1) (after_message number at), length-append (message_lines number at) (messages_from n (number + 1) (after_message number at)))

-- ---- the summary ----

-- a text in two parts, and one that ends with its line end
pub text_pieces : (a b c d e f g h i j k l m n : List ℕ)
    → (a ++ (b ++ (c ++ (d ++ (e ++ (f ++ (g ++ (h ++ (i ++ (j ++ k)))))))))) ++ (l ++ (m ++ n))
    ≡ (a ++ (b ++ (c ++ (d ++ (e ++ (f ++ (g ++ (h ++ (i ++ (j ++ (k ++ (l ++ m)))))))))))) ++ n
text_pieces a b c d e f g h i j k l m n = simp append_assoc
