-- What a collector has taken after a message, and what crashes leave of it.
use Rattle.std.proofs.Common.{◌≡◌, ◌⊎◌, inl, inr, ⊎_elim, ℕ, ◌+◌, ◌&&◌, Bool, true, false, nat_le, if◌then◌else◌, List, [], ◌∷◌, ◌++◌, length, take, get_or, Option, None, Some, Result, Ok, refl, sym, ◌∙◌, ap, subst, arith, append-nil, length-append}
use Rattle.std.proofs.lemmas.List.{take_all}
use Rattle.std.proofs.lemmas.Bool.{and_parts}
use Rattle.std.specs.List.{list_all}
use Rattle.disk_model.specs.Disk.{Meaning, Moves, Settled}
use Rattle.stable_buffer.specs.Register.{IsReady, register_disk, register_value}
use Rattle.stable_buffer.specs.declared.register.Register.{Register}
use Rattle.file_messages.specs.FileNames.{IsFileName, is_file_name, is_name_byte, begins_plainly, ends_plainly}
use Rattle.file_messages.specs.Messages.{Message, Start, Piece, End, Abandon, Other, message_of}
use Rattle.file_messages.specs.Files.{File, State, Between, Inside, is_whole, after, given, state_after, files}
use Rattle.file_messages.specs.Assemblies.{StandsFor, answer}
use Rattle.file_messages.specs.declared.assembly.Assembly.{Assembly}
use Rattle.file_messages.specs.declared.assembly.Step.{Step}
use Rattle.file_messages.specs.declared.assembly.Step.TheVariants.{Started, Whole}
use Rattle.file_messages.specs.declared.assembly.Step.TheVariants.{Grown as MoreBytes, Dropped as GivenUp, Odd as OutOfPlace}
use Rattle.file_messages.proofs.Runs.{files_on, state_on}
use Rattle.file_messages.proofs.Lawful.{IsLawfulState, lawful_after}
use Rattle.file_messages.proofs.FirstBytes.{lawful_message}
use Rattle.folders.specs.Placing.{Placing, Names, IsDurable, is_there}
use Rattle.folders.proofs.Dashes.{other_than}
use Rattle.file_collector.specs.Names.{IsChosen}
use Rattle.file_collector.specs.Registers.{RegisterStands, Follows, MayTurn, Turns, held}
use Rattle.file_collector.specs.Gathering.{HoldsPart, BeginsPart, HasCome, IsClear, IsGivenFor, IsWellBegun, Places, IsAnswer, ShowsFile, MayLeavePart, part_left, part_in}
use Rattle.file_collector.specs.Collecting.{before_tilde, own_file, published, IsHere, Fits, HasTaken, HasPlaced, MayLeave}
use Rattle.file_collector.specs.declared.collector.Collector.{Collector}
use Rattle.file_collector.specs.declared.gathering.Gatherer.{Gatherer}
use Rattle.file_collector.specs.declared.values.PlaceFault.{PlaceFault}
use Rattle.file_collector.specs.declared.values.Placed.{Placed}
use Rattle.file_collector.specs.declared.values.Placed.TheVariants.{Begun, Grown, Shown, Dropped, Odd}
use Rattle.file_collector.proofs.Steps.{whole_gives, none_given, cases_given}
use Rattle.file_collector.proofs.Gathers.{names_before, held_begins, unmoved_left}

-- names and tildes
name_bytes : (name : List ℕ) → IsFileName name → list_all is_name_byte name ≡ true
unfolding is_file_name
name_bytes name h =
    let first = and_parts (nat_le (length name) 128) (begins_plainly name && (ends_plainly name && list_all is_name_byte name)) h in
    let second = and_parts (begins_plainly name) (ends_plainly name && list_all is_name_byte name) first.1 in
    (and_parts (ends_plainly name) (list_all is_name_byte name) second.1).1

before_plain : (name back : List ℕ) → list_all is_name_byte name ≡ true → before_tilde (name ++ 126 ∷ back) ≡ name
before_plain [] back h = refl
before_plain (b ∷ name) back h =
    let tests = and_parts (is_name_byte b) (list_all is_name_byte name) h in
    ap (λ t. if t then [] else b ∷ before_tilde (name ++ 126 ∷ back)) (other_than 126 is_name_byte refl b tests.0) ∙ ap (λ (l : List ℕ). b ∷ l) (before_plain name back tests.1)

all_plain : (name : List ℕ) → list_all is_name_byte name ≡ true → before_tilde name ≡ name
all_plain [] h = refl
all_plain (b ∷ name) h =
    let tests = and_parts (is_name_byte b) (list_all is_name_byte name) h in
    ap (λ t. if t then [] else b ∷ before_tilde name) (other_than 126 is_name_byte refl b tests.0) ∙ ap (λ (l : List ℕ). b ∷ l) (all_plain name tests.1)

chosen_own : (free : List ℕ → Bool) (name : List ℕ) (number : ℕ) (chosen : List ℕ) → IsFileName name → IsChosen free name number chosen → before_tilde chosen ≡ name
chosen_own free name number chosen is (inl own) = ap before_tilde own.1 ∙ all_plain name (name_bytes name is)
chosen_own free name number chosen is (inr other) = ap before_tilde other.1 ∙ before_plain name _ (name_bytes name is)

published_on : (shown : List File) (f : File) → published (shown ++ f ∷ []) ≡ published shown ++ own_file f ∷ []
published_on [] f = refl
published_on (s ∷ shown) f = ap (λ (l : List File). own_file s ∷ l) (published_on shown f)

published_chosen : (shown : List File) (free : List ℕ → Bool) (name : List ℕ) (number : ℕ) (chosen bytes : List ℕ) → IsFileName name → IsChosen free name number chosen
    → published (shown ++ record { name = chosen; bytes = bytes } ∷ []) ≡ published shown ++ record { name = name; bytes = bytes } ∷ []
published_chosen shown free name number chosen bytes is is_chosen =
    published_on shown (record { name = chosen; bytes = bytes })
    ∙ ap (λ (n : List ℕ). published shown ++ record { name = n; bytes = bytes } ∷ []) (chosen_own free name number chosen is is_chosen)

-- one message more
pub state_next : (messages : List (List ℕ)) (message : List ℕ) → state_after Between (messages ++ message ∷ []) ≡ after (state_after Between messages) (message_of message)
state_next messages message = state_on Between messages (message ∷ [])

pub files_next : (messages : List (List ℕ)) (message : List ℕ) → files (messages ++ message ∷ []) ≡ files messages ++ given (state_after Between messages) (message_of message)
files_next messages message = files_on Between messages (message ∷ []) ∙ ap (λ (l : List File). files messages ++ l) (append-nil (given (state_after Between messages) (message_of message)))

take_before : (messages : List (List ℕ)) (message : List ℕ) → take (length messages) (messages ++ message ∷ []) ≡ messages
take_before [] message = refl
take_before (m ∷ messages) message = ap (λ (l : List (List ℕ)). m ∷ l) (take_before messages message)

take_after : (messages : List (List ℕ)) (message : List ℕ) → take (length messages + 1) (messages ++ message ∷ []) ≡ messages ++ message ∷ []
take_after messages message = take_all (length messages + 1) (messages ++ message ∷ []) (omega (arith, length-append messages (message ∷ [])))

last_is : (messages : List (List ℕ)) (message : List ℕ) → get_or (messages ++ message ∷ []) (length messages) [] ≡ message
last_is [] message = refl
last_is (m ∷ messages) message = last_is messages message

to_lawful : (state : State) → IsWellBegun state → IsLawfulState state
to_lawful Between h = tt
to_lawful (Inside n z b) h = h

to_begun : (state : State) → IsLawfulState state → IsWellBegun state
to_begun Between h = tt
to_begun (Inside n z b) h = h

pub begun_after : (state : State) (message : List ℕ) → IsWellBegun state → IsWellBegun (after state (message_of message))
begun_after state message h = to_begun (after state (message_of message)) (lawful_after state (message_of message) (to_lawful state h) (lawful_message message))

pub begun_next : (messages : List (List ℕ)) (message : List ℕ) → IsWellBegun (state_after Between messages) → IsWellBegun (state_after Between (messages ++ message ∷ []))
begun_next messages message h =
    subst IsWellBegun (sym (state_next messages message))
    (to_begun (after (state_after Between messages) (message_of message)) (lawful_after (state_after Between messages) (message_of message) (to_lawful (state_after Between messages) h) (lawful_message message)))

follows_room : (n : List ℕ) (z : ℕ) (b p : List ℕ) (room : Bool) → Follows (Inside n z b) (if room then Inside n z (b ++ p) else Between)
follows_room n z b p true = (refl, refl)
follows_room n z b p false = tt

pub follows_after : (state : State) (m : Message) → Follows state (after state m)
follows_after Between (Start n z) = refl
follows_after Between (Piece p) = tt
follows_after Between (End d) = tt
follows_after Between Abandon = tt
follows_after Between Other = tt
follows_after (Inside n z b) (Piece p) = follows_room n z b p (nat_le (length b + length p) z)
follows_after (Inside n z b) (Start n' z') = tt
follows_after (Inside n z b) (End d) = tt
follows_after (Inside n z b) Abandon = tt
follows_after (Inside n z b) Other = tt

module _ {I : Type 0} (mi : Placing I) where
  -- what is shown, by the answer
  as_before : (state : State) (m : Message) (s : Step) (shown next : List File) → answer state m ≡ s → (s ≡ Whole → ⊥) → next ≡ shown → published next ≡ published shown ++ given state m
  as_before state m s shown next is other same =
      ap published same ∙ sym (append-nil (published shown)) ∙ ap (λ (l : List File). published shown ++ l) (sym (none_given state m s is other))

  pub published_next : (old new : I) (number : ℕ) (state : State) (m : Message) (placed : Placed) → IsWellBegun state → IsAnswer state (answer state m) placed → ShowsFile mi old new number state placed
      → published (mi.shown new) ≡ published (mi.shown old) ++ given state m
  published_next old new number Between m Begun begun is shows = as_before Between m Started (mi.shown old) (mi.shown new) is (λ e. cc e) shows
  published_next old new number Between m Grown begun is shows = as_before Between m MoreBytes (mi.shown old) (mi.shown new) is (λ e. cc e) shows
  published_next old new number Between m (Shown file) begun is shows = absurd is
  published_next old new number Between m (Dropped lost) begun is shows = absurd is
  published_next old new number Between m Odd begun is shows = as_before Between m OutOfPlace (mi.shown old) (mi.shown new) is (λ e. cc e) shows
  published_next old new number (Inside n z b) m Begun begun is shows = as_before (Inside n z b) m Started (mi.shown old) (mi.shown new) is (λ e. cc e) shows
  published_next old new number (Inside n z b) m Grown begun is shows = as_before (Inside n z b) m MoreBytes (mi.shown old) (mi.shown new) is (λ e. cc e) shows
  published_next old new number (Inside n z b) m (Shown file) begun is shows =
      ap published shows.1 ∙ published_chosen (mi.shown old) (mi.free old) n number file.name.bytes b begun.0 shows.0
      ∙ ap (λ (l : List File). published (mi.shown old) ++ l) (sym (whole_gives n z b m is.0))
  published_next old new number (Inside n z b) m (Dropped lost) begun is shows = as_before (Inside n z b) m (GivenUp lost.cause) (mi.shown old) (mi.shown new) is.0 (λ e. cc e) shows
  published_next old new number (Inside n z b) m Odd begun is shows = as_before (Inside n z b) m OutOfPlace (mi.shown old) (mi.shown new) is (λ e. cc e) shows

first_is : (f g : File) (a b : List File) → a ≡ f ∷ [] → b ≡ g ∷ [] → a ≡ b → f ≡ g
first_is f g a b is are same = cc (is, are, same)

given_lawful : (n : List ℕ) (one : List File) (f : File) → one ≡ f ∷ [] → f.name ≡ n → IsFileName n → (whole : Bool) (file : File) → (if whole then one else []) ≡ file ∷ [] → IsFileName file.name
given_lawful n one f is named lawful true file e = subst IsFileName (sym named ∙ ap (λ (g : File). g.name) (first_is f file one one is e refl)) lawful
given_lawful n one f is named lawful false file e = absurd (cc e)

file_lawful : (state : State) (m : Message) (file : File) → IsWellBegun state → given state m ≡ file ∷ [] → IsFileName file.name
file_lawful Between m file h e = absurd (cc e)
file_lawful (Inside n z b) (Start name size) file h e = absurd (cc e)
file_lawful (Inside n z b) (Piece p) file h e = absurd (cc e)
file_lawful (Inside n z b) (End d) file h e = given_lawful n (record { name = n; bytes = b } ∷ []) (record { name = n; bytes = b }) refl refl h.0 (is_whole z b d) file e
file_lawful (Inside n z b) Abandon file h e = absurd (cc e)
file_lawful (Inside n z b) Other file h e = absurd (cc e)

module _ {I D : Type 0} (mi : Placing I) (md : Meaning D) where
  register_left : (d : D) (count : ℕ) (state : State) → Settled md d → (md.tells → RegisterStands count state (md.reading d)) → md.tells_images → (r : List ℕ) → md.images d r → RegisterStands count state r
  register_left d count state settled stands tells r is = subst (λ (l : List ℕ). RegisterStands count state l) (sym (settled tells r is)) (stands (md.images_tell tells))

  pub has_placed : (c : Collector I D) (g : Gatherer I D) (messages : List (List ℕ)) (message : List ℕ) (placed : Placed) → HasTaken mi md c messages
      → StandsFor g.assembly (after (state_after Between messages) (message_of message)) → Places mi md (length messages) message (state_after Between messages) c.gatherer g (Ok placed)
      → HasPlaced mi md (record { gatherer = g; register = c.register; is_placed = true; is_open = c.is_open; lost = c.lost }) messages message
  has_placed c g messages message placed has assembly places =
      let state = state_after Between messages in
      record {
        is_open = has.is_open;
        placed = refl;
        assembly = subst (λ (s : State). StandsFor g.assembly s) (sym (state_next messages message)) assembly;
        come = subst (λ (s : State). HasCome mi md g s) (sym (state_next messages message)) places.come;
        begun = begun_next messages message has.gathering.begun;
        still = places.still;
        gone = places.gone;
        kept = has.kept;
        shown = λ told tells.
            published_next mi c.gatherer.inbox g.inbox (length messages) state (message_of message) placed has.gathering.begun places.answer (places.shown told tells)
            ∙ ap (λ (l : List File). l ++ given state (message_of message)) (has.shown told tells) ∙ sym (files_next messages message);
      }

  pub place_fits : (c new : Collector I D) (messages : List (List ℕ)) (message : List ℕ) (result : Result Placed PlaceFault) → HasTaken mi md c messages → new.register ≡ c.register
      → Places mi md (length messages) message (state_after Between messages) c.gatherer new.gatherer result
      → mi.tells_images → md.tells_images → (register : List ℕ) (names : Names) (bytes : List ℕ) → MayLeave mi md c new register names bytes → Fits (messages ++ message ∷ []) register names (part_left names bytes)
  place_fits c new messages message result has same places told tells register names bytes left =
      let state = state_after Between messages in
      let all = messages ++ message ∷ [] in
      let since : md.since (register_disk c.register) (md.moment (register_disk c.register)) register =
      subst (λ (r : Register D). md.since (register_disk r) (md.moment (register_disk c.register)) register) same left.of_register in
      record {
        count = length messages;
        within = omega (arith, length-append messages (message ∷ []));
        stands = subst (λ (l : List (List ℕ)). RegisterStands (length messages) (state_after Between l) register) (sym (take_before messages message))
            (register_left (register_disk c.register) (length messages) state has.kept.settled has.kept.stands tells register (md.only_now tells (register_disk c.register) register since));
        either = ⊎_elim
            (λ before. inl (subst (λ (l : List (List ℕ)). IsHere l names (part_left names bytes)) (sym (take_before messages message))
            (record { are_shown = ap published before.shown ∙ has.shown (mi.images_tell told) (md.images_tell tells); has_bytes = before.part })))
            (λ after. inr (record {
              more = omega (arith, length-append messages (message ∷ []));
              file = after.file;
              gives = (λ i. given (state_after Between (take_before messages message i)) (message_of (last_is messages message i))) ∙ after.gives;
              are_shown =
                  ap published after.showing.shown
                  ∙ published_chosen (mi.shown c.gatherer.inbox) (mi.free c.gatherer.inbox) after.file.name (length messages) after.showing.chosen after.file.bytes
                  (file_lawful state (message_of message) after.file has.gathering.begun after.gives) after.showing.is_chosen
                  ∙ (λ i. has.shown (mi.images_tell told) (md.images_tell tells) i ++ sym after.gives i)
                  ∙ sym (files_next messages message)
                  ∙ ap files (sym (take_after messages message));
              gone = after.showing.gone;
            }))
            (places.during told tells names bytes left.of_gatherer);
      }

  holds_begins : (part : Option D) (state : State) → HoldsPart md part state → BeginsPart md part state
  holds_begins part Between h = tt
  holds_begins part (Inside n z b) h = held_begins mi md part n z b h

  clear_in : (state : State) (old new : Option D) → new ≡ part_in state old → IsClear new state
  clear_in Between old new e = e
  clear_in (Inside n z b) old new e = tt

  holds_in : (state : State) (old new : Option D) → new ≡ part_in state old → HoldsPart md old state → HoldsPart md new state
  holds_in Between old new e h = tt
  holds_in (Inside n z b) old new e h = subst (λ (p : Option D). HoldsPart md p (Inside n z b)) (sym e) h

  pub part_same_or_none : (state : State) (old new : Option D) → new ≡ part_in state old → (new ≡ old) ⊎ (new ≡ None)
  part_same_or_none Between old new e = inr e
  part_same_or_none (Inside n z b) old new e = inl e

  none_left : (part : Option D) (bytes : List ℕ) → md.tells_images → MayLeavePart md part None bytes → MayLeavePart md part part bytes
  none_left None bytes tells left = tt
  none_left (Some d) bytes tells left = md.counts_now tells d (md.moment d) bytes (omega arith) left

  same_left : (part new : Option D) (bytes : List ℕ) → (new ≡ part) ⊎ (new ≡ None) → md.tells_images → MayLeavePart md part new bytes → MayLeavePart md part part bytes
  same_left part new bytes (inl e) tells left = subst (λ (p : Option D). MayLeavePart md part p bytes) e left
  same_left part new bytes (inr e) tells left = none_left part bytes tells (subst (λ (p : Option D). MayLeavePart md part p bytes) e left)

  pub has_taken : (c : Collector I D) (g : Gatherer I D) (r : Register D) (messages : List (List ℕ)) (message : List ℕ) (second : ℕ) → HasPlaced mi md c messages message
      → g.inbox ≡ c.gatherer.inbox → g.assembly ≡ c.gatherer.assembly → g.part ≡ part_in (state_after Between (messages ++ message ∷ [])) c.gatherer.part
      → IsReady md r → Settled md (register_disk r) → register_value r ≡ (c.register.first + 1, second) → second ≡ held (state_after Between (messages ++ message ∷ []))
      → (md.tells → Turns (state_after Between (messages ++ message ∷ [])) (md.reading (register_disk c.register)) (md.reading (register_disk r)))
      → HasTaken mi md (record { gatherer = g; register = r; is_placed = false; is_open = c.is_open; lost = c.lost }) (messages ++ message ∷ [])
  has_taken c g r messages message second has same_inbox same_assembly part ready settled value second_is turned =
      let next = state_after Between (messages ++ message ∷ []) in
      let first : c.register.first ≡ length messages = ap (λ (v : ℕ × ℕ). v.0) has.kept.value in
      let count : c.register.first + 1 ≡ length (messages ++ message ∷ []) = omega (arith, first, length-append messages (message ∷ [])) in
      let follows : Follows (state_after Between messages) next =
      subst (λ (s : State). Follows (state_after Between messages) s) (sym (state_next messages message)) (follows_after (state_after Between messages) (message_of message)) in
      record {
        is_open = has.is_open;
        counted = refl;
        gathering = record {
          assembly = subst (λ (a : Assembly). StandsFor a next) (sym same_assembly) has.assembly;
          come = record {
            part = holds_in next c.gatherer.part g.part part has.come.part;
            given = λ told. subst (λ (i : I). IsGivenFor next (mi.part i)) (sym same_inbox) (has.come.given told);
            durable = subst (λ (i : I). IsDurable mi i) (sym same_inbox) has.come.durable;
          };
          clear = clear_in next c.gatherer.part g.part part;
          begun = has.begun;
        };
        kept = record {
          ready = ready;
          value = value ∙ (λ i. (count i, second_is i));
          settled = settled;
          stands = λ tells.
              let turns = turned tells in
              subst (λ n. RegisterStands n next (md.reading (register_disk r))) (omega (arith, length-append messages (message ∷ [])))
              (turns.more (length messages) (state_after Between messages) (has.kept.stands tells) follows);
        };
        shown = λ told tells. subst (λ (i : I). published (mi.shown i) ≡ files (messages ++ message ∷ [])) (sym same_inbox) (has.shown told tells);
      }

  register_cases : (c : Collector I D) (r : Register D) (messages : List (List ℕ)) (message : List ℕ) → HasPlaced mi md c messages message → Moves md (MayTurn (state_after Between (messages ++ message ∷ []))) (register_disk c.register) (register_disk r)
      → md.tells_images → (register : List ℕ) → md.since (register_disk r) (md.moment (register_disk c.register)) register
      → RegisterStands (length messages) (state_after Between messages) register ⊎ RegisterStands (length messages + 1) (state_after Between (messages ++ message ∷ [])) register
  register_cases c r messages message has moved tells register since =
      let d = register_disk c.register in
      let state = state_after Between messages in
      let next = state_after Between (messages ++ message ∷ []) in
      let follows : Follows state next = subst (λ (s : State). Follows state s) (sym (state_next messages message)) (follows_after state (message_of message)) in
      ⊎_elim
      (λ was. inl (register_left d (length messages) state has.kept.settled has.kept.stands tells register (md.only_now tells d register was)))
      (λ from.
      let may = from.2 in
      may.either (length messages) state (register_left d (length messages) state has.kept.settled has.kept.stands tells from.0 from.1) follows)
      (moved.each tells (md.moment d) register (omega arith) since)

  count_fits_by : (c : Collector I D) (messages : List (List ℕ)) (message : List ℕ) → HasPlaced mi md c messages message
      → mi.tells_images → md.tells_images → (register : List ℕ) (names : Names) (bytes : List ℕ)
      → RegisterStands (length messages) (state_after Between messages) register ⊎ RegisterStands (length messages + 1) (state_after Between (messages ++ message ∷ [])) register
      → mi.since c.gatherer.inbox (mi.moment c.gatherer.inbox) names → MayLeavePart md c.gatherer.part c.gatherer.part bytes
      → Fits (messages ++ message ∷ []) register names (part_left names bytes)
  count_fits_by c messages message has told tells register names bytes (inr next_stands) since left =
      let all = messages ++ message ∷ [] in
      let are = names_before mi md c.gatherer.inbox names has.come.durable told since in
      record {
        count = length messages + 1;
        within = omega (arith, length-append messages (message ∷ []));
        stands = subst (λ (l : List (List ℕ)). RegisterStands (length messages + 1) (state_after Between l) register) (sym (take_after messages message)) next_stands;
        either = inl (subst (λ (l : List (List ℕ)). IsHere l names (part_left names bytes)) (sym (take_after messages message)) (record {
          are_shown = ap (λ (x : Names). published x.shown) are ∙ has.shown (mi.images_tell told) (md.images_tell tells);
          has_bytes = unmoved_left mi md c.gatherer.inbox c.gatherer.part (state_after Between all) names bytes has.come.durable has.come.given
              (holds_begins c.gatherer.part (state_after Between all) has.come.part) told tells since left;
        }));
      }
  count_fits_by c messages message has told tells register names bytes (inl stands) since left =
      let state = state_after Between messages in
      let are = names_before mi md c.gatherer.inbox names has.come.durable told since in
      let shown = ap (λ (x : Names). published x.shown) are ∙ has.shown (mi.images_tell told) (md.images_tell tells) in
      record {
        count = length messages;
        within = omega (arith, length-append messages (message ∷ []));
        stands = subst (λ (l : List (List ℕ)). RegisterStands (length messages) (state_after Between l) register) (sym (take_before messages message)) stands;
        either = ⊎_elim
            (λ none.
            let still = has.still none in
            inl (subst (λ (l : List (List ℕ)). IsHere l names (part_left names bytes)) (sym (take_before messages message)) (record {
              are_shown = shown ∙ files_next messages message ∙ ap (λ (l : List File). files messages ++ l) none ∙ append-nil (files messages);
              has_bytes = unmoved_left mi md c.gatherer.inbox c.gatherer.part state names bytes has.come.durable still.1 still.0 told tells since left;
            })))
            (λ some. inr (record {
              more = omega (arith, length-append messages (message ∷ []));
              file = some.0;
              gives = (λ i. given (state_after Between (take_before messages message i)) (message_of (last_is messages message i))) ∙ some.1;
              are_shown = shown ∙ ap files (sym (take_after messages message));
              gone = ap (λ (x : Names). x.has_part) are ∙ ap is_there (has.gone some.0 some.1 (mi.images_tell told));
            }))
            (cases_given state (message_of message));
      }

  pub count_fits : (c new : Collector I D) (messages : List (List ℕ)) (message : List ℕ) → HasPlaced mi md c messages message → new.gatherer.inbox ≡ c.gatherer.inbox
      → (new.gatherer.part ≡ c.gatherer.part) ⊎ (new.gatherer.part ≡ None) → Moves md (MayTurn (state_after Between (messages ++ message ∷ []))) (register_disk c.register) (register_disk new.register)
      → mi.tells_images → md.tells_images → (register : List ℕ) (names : Names) (bytes : List ℕ) → MayLeave mi md c new register names bytes → Fits (messages ++ message ∷ []) register names (part_left names bytes)
  count_fits c new messages message has same_inbox part moved told tells register names bytes left =
      count_fits_by c messages message has told tells register names bytes (register_cases c new.register messages message has moved tells register left.of_register)
      (subst (λ (i : I). mi.since i (mi.moment c.gatherer.inbox) names) same_inbox left.of_gatherer.of_folder)
      (same_left c.gatherer.part new.gatherer.part bytes part tells left.of_gatherer.of_part)
