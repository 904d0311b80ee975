-- What a gatherer's steps come to, by what their calls promise.
use Rattle.std.proofs.Common.{◌≡◌, ◌⊎◌, inl, inr, ⊎_elim, ℕ, ◌≤◌, true, if◌then◌else◌, List, [], ◌∷◌, ◌++◌, length, take, drop, Option, None, Some, Result, Ok, Err, IfErr, refl, sym, ◌∙◌, ap, subst, arith}
use Rattle.std.proofs.lemmas.List.{take_all}
use Rattle.sha2.specs.Sha256.{sha256}
use Rattle.sha2.proofs.Facts256.{length-sha256}
use Rattle.file_messages.specs.declared.assembly.Assembly.{Assembly}
use Rattle.disk_model.specs.Disk.{Meaning, Moves, Torn, Settled}
use Rattle.file_messages.specs.Messages.{Message, End, message_of}
use Rattle.file_messages.specs.Files.{State, Between, Inside, is_whole, after, given}
use Rattle.file_messages.specs.Assemblies.{answer, progress_of}
use Rattle.file_messages.specs.declared.assembly.Progress.{Progress}
use Rattle.file_messages.proofs.FirstBytes.{ends_with}
use Rattle.file_messages.specs.declared.assembly.Step.TheVariants.{Started, Whole}
use Rattle.file_messages.specs.declared.assembly.Step.TheVariants.{Grown as MoreBytes, Dropped as GivenUp}
use Rattle.file_messages.specs.declared.assembly.Cause.{Cause}
use Rattle.folders.specs.Placing.{Placing, Names, Missing, Given, Turns, IsDurable, is_there}
use Rattle.file_collector.specs.Gathering.{BeginsPart, ShowsFile, IsAnswer, PartFailed, MayLeavePart, IsWhyNot, HasCome, HoldsPart, IsGivenFor, Places, CrashesIn, IsAsBefore, IsShown, PartStands, part_left}
use Rattle.file_collector.specs.Names.{IsChosen, IsCause, IsFault, IsShowing}
use Rattle.file_collector.specs.Parts.{IsDevice}
use Rattle.file_collector.specs.declared.gathering.Gatherer.{Gatherer}
use Rattle.file_collector.specs.declared.values.Placed.TheVariants.{Begun, Grown, Shown, Dropped}
use Rattle.file_collector.specs.declared.values.PlaceFault.TheVariants.{Device, NameTaken}
use Rattle.file_collector.specs.declared.values.PlaceFault.{PlaceFault}
use Rattle.file_collector.specs.declared.values.Placed.{Placed}
use Rattle.file_collector.specs.declared.values.Shown.{Shown as ShownFile}
use Rattle.file_collector.proofs.Steps.{begins, grows, completes, drops, piece_bytes, no_file}

take_prefix : (a b : List ℕ) → take (length a) (a ++ b) ≡ a
take_prefix [] b = refl
take_prefix (x ∷ a) b = ap (λ (l : List ℕ). x ∷ l) (take_prefix a b)

some_none : {X : Type 0} {l : List X} {x : X} → l ≡ [] → l ≡ x ∷ [] → ⊥
some_none none some = absurd (cc (none, some))

some_is : {X : Type 0} (a b : X) → Some a ≡ Some b → a ≡ b
some_is a b e = cc e

module _ {I D : Type 0} (mi : Placing I) (md : Meaning D) where
  -- a crash before the call left what is shown
  pub names_before : (i : I) (names : Names) → IsDurable mi i → mi.tells_images → mi.since i (mi.moment i) names → names ≡ record { shown = mi.shown i; has_part = is_there (mi.part i) }
  names_before i names durable told was = durable told names (mi.only_now told i names was)

  begin_leaves : (i j : I) (state : State) (names : Names) (bytes : List ℕ) → state ≡ Between → IsDurable mi i → Turns mi (λ x. x.shown ≡ mi.shown i) i j → mi.tells_images
      → mi.since j (mi.moment i) names → IsAsBefore mi i state names bytes
  begin_leaves i j state names bytes is durable turns told left = record {
    shown = ⊎_elim (λ was. ap (λ (x : Names). x.shown) (names_before i names durable told was)) (λ e. e) (turns.each told (mi.moment i) names (omega arith) left);
    part = subst (λ (s : State). PartStands s (part_left names bytes)) (sym is) tt;
  }

  pub begun : (number : ℕ) (message : List ℕ) (state : State) (old new : Gatherer I D) (d : D) → HasCome mi md old state → answer state (message_of message) ≡ Started
      → new.part ≡ Some d → Settled md d → (md.tells → md.reading d ≡ []) → (mi.tells → mi.part new.inbox ≡ Given) → mi.shown new.inbox ≡ mi.shown old.inbox
      → Turns mi (λ x. x.shown ≡ mi.shown old.inbox) old.inbox new.inbox → IsDurable mi new.inbox → mi.count old.inbox ≤ mi.count new.inbox
      → Places mi md number message state old new (Ok Begun)
  begun number message state old new d has is new_part settled empty is_given shown turns durable later =
      let (name, size, was, start) = begins state (message_of message) is in
      let now : after state (message_of message) ≡ Inside name size [] = (λ i. after (was i) (start i)) in
      record {
        come = record {
          part = subst (λ (p : Option D). HoldsPart md p (after state (message_of message))) (sym new_part)
              (subst (λ (s : State). HoldsPart md (Some d) s) (sym now) (settled, empty));
          given = λ told. subst (λ (s : State). IsGivenFor s (mi.part new.inbox)) (sym now) (is_given told);
          durable = durable;
        };
        still = λ none. subst (λ (s : State). BeginsPart md new.part s × (mi.tells → IsGivenFor s (mi.part new.inbox))) (sym was) (tt, λ told. tt);
        gone = λ file gives. absurd (no_file state (message_of message) Started is (λ e. cc e) file gives);
        answer = is;
        shown = λ told tells. subst (λ (s : State). ShowsFile mi old.inbox new.inbox number s Begun) (sym was) shown;
        during = λ told tells names bytes left. inl (begin_leaves old.inbox new.inbox state names bytes was has.durable turns told left.of_folder);
        later = later;
        why_not = tt;
      }

  pub begun_not : (number : ℕ) (message : List ℕ) (state : State) (old new : Gatherer I D) (faults : ℕ) → HasCome mi md old state → answer state (message_of message) ≡ Started
      → Turns mi (λ x. x.shown ≡ mi.shown old.inbox) old.inbox new.inbox → mi.count old.inbox ≤ mi.count new.inbox → IsFault mi old.inbox new.inbox (Device faults)
      → Places mi md number message state old new (Err (Device faults))
  begun_not number message state old new faults has is turns later fault =
      let (name, size, was, start) = begins state (message_of message) is in
      record {
        come = tt;
        still = tt;
        gone = tt;
        answer = tt;
        shown = tt;
        during = λ told tells names bytes left. inl (begin_leaves old.inbox new.inbox state names bytes was has.durable turns told left.of_folder);
        later = later;
        why_not = inl fault;
      }

  part_there : (i : I) (names : Names) → names ≡ record { shown = mi.shown i; has_part = is_there (mi.part i) } → mi.part i ≡ Given → names.has_part ≡ true
  part_there i names e is = ap (λ (x : Names). x.has_part) e ∙ ap is_there is

  -- the part of a file that has begun, as it was
  part_before : (name : List ℕ) (size : ℕ) (held : List ℕ) (names : Names) (bytes : List ℕ) → names.has_part ≡ true → take (length held) bytes ≡ held → PartStands (Inside name size held) (part_left names bytes)
  part_before name size held names bytes there is = subst (λ b. PartStands (Inside name size held) (if b then Some bytes else None)) (sym there) is

  whole_part : (held : List ℕ) → take (length held) held ≡ held
  whole_part held = take_all (length held) held (omega arith)

  -- what a crash leaves of a part that grows
  grown_left : (e f : D) (at n : ℕ) (held bytes : List ℕ) → Settled md e → md.reading e ≡ held → length held ≡ at → Moves md (Torn at n) e f → md.tells_images → md.since f (md.moment e) bytes → take (length held) bytes ≡ held
  grown_left e f at n held bytes settled reads size moved told left = ⊎_elim
      (λ was. ap (λ (l : List ℕ). take (length held) l) (settled told bytes (md.only_now told e bytes was) ∙ reads) ∙ whole_part held)
      (λ from.
      let torn = from.2 in
      let same : from.0 ≡ held = settled told from.0 from.1 ∙ reads in
      ap (λ k. take k bytes) size ∙ torn.before ∙ ap (λ (l : List ℕ). take at l) same ∙ ap (λ k. take k held) (sym size) ∙ whole_part held)
      (moved.each told (md.moment e) bytes (omega arith) left)

  grow_leaves : (number at n : ℕ) (state : State) (name : List ℕ) (size : ℕ) (held : List ℕ) (old new : Gatherer I D) (e f : D) → HasCome mi md old state → state ≡ Inside name size held
      → old.part ≡ Some e → new.inbox ≡ old.inbox → new.part ≡ Some f → (md.tells → length (md.reading e) ≡ at) → Moves md (Torn at n) e f
      → mi.tells_images → md.tells_images → (names : Names) (bytes : List ℕ) → CrashesIn mi md old new names bytes → IsAsBefore mi old.inbox state names bytes
  grow_leaves number at n state name size held old new e f has was of_old same of_new long moved told tells names bytes left =
      let part : HoldsPart md (Some e) (Inside name size held) = subst (λ (p : Option D). HoldsPart md p (Inside name size held)) of_old (subst (λ (s : State). HoldsPart md old.part s) was has.part) in
      let reads = part.1 (md.images_tell tells) in
      let left_names : mi.since old.inbox (mi.moment old.inbox) names = subst (λ (i : I). mi.since i (mi.moment old.inbox) names) same left.of_folder in
      let are = names_before old.inbox names has.durable told left_names in
      let is_given : mi.part old.inbox ≡ Given = subst (λ (s : State). IsGivenFor s (mi.part old.inbox)) was (has.given (mi.images_tell told)) in
      let left_bytes : md.since f (md.moment e) bytes = subst (λ (p : Option D). MayLeavePart md (Some e) p bytes) of_new (subst (λ (p : Option D). MayLeavePart md p new.part bytes) of_old left.of_part) in
      record {
        shown = ap (λ (x : Names). x.shown) are;
        part = subst (λ (s : State). PartStands s (part_left names bytes)) (sym was)
            (part_before name size held names bytes (part_there old.inbox names are is_given)
            (grown_left e f at n held bytes part.0 reads (ap length (sym reads) ∙ long (md.images_tell tells)) moved tells left_bytes));
      }

  pub grown : (number at n : ℕ) (message bytes : List ℕ) (state : State) (old new : Gatherer I D) (e f : D) → HasCome mi md old state → answer state (message_of message) ≡ MoreBytes → bytes ≡ drop 1 message → length bytes ≡ n
      → old.part ≡ Some e → new.inbox ≡ old.inbox → new.part ≡ Some f → (md.tells → length (md.reading e) ≡ at) → Moves md (Torn at n) e f
      → Settled md f → (md.tells → md.reading f ≡ md.reading e ++ bytes)
      → Places mi md number message state old new (Ok Grown)
  grown number at n message bytes state old new e f has is from size of_old same of_new long moved settled grew =
      let g = grows state (message_of message) is in
      let piece : bytes ≡ g.piece = from ∙ ap (λ (l : List ℕ). drop 1 l) (piece_bytes message g.piece g.message) in
      let now : after state (message_of message) ≡ Inside g.name g.size (g.bytes ++ g.piece) =
      (λ i. after (g.was i) (g.message i)) ∙ ap (λ b. if b then Inside g.name g.size (g.bytes ++ g.piece) else Between) g.fits in
      let part : HoldsPart md (Some e) (Inside g.name g.size g.bytes) = subst (λ (p : Option D). HoldsPart md p (Inside g.name g.size g.bytes)) of_old (subst (λ (s : State). HoldsPart md old.part s) g.was has.part) in
      let is_given : mi.tells → mi.part old.inbox ≡ Given = λ told. subst (λ (s : State). IsGivenFor s (mi.part old.inbox)) g.was (has.given told) in
      record {
        come = record {
          part = subst (λ (p : Option D). HoldsPart md p (after state (message_of message))) (sym of_new)
              (subst (λ (s : State). HoldsPart md (Some f) s) (sym now) (settled, λ tells. grew tells ∙ (λ i. part.1 tells i ++ piece i)));
          given = λ told. subst (λ (s : State). IsGivenFor s (mi.part new.inbox)) (sym now) (subst (λ (i : I). mi.part i ≡ Given) (sym same) (is_given told));
          durable = subst (λ (i : I). IsDurable mi i) (sym same) has.durable;
        };
        still = λ none. subst (λ (s : State). BeginsPart md new.part s × (mi.tells → IsGivenFor s (mi.part new.inbox))) (sym g.was) (
          subst (λ (p : Option D). BeginsPart md p (Inside g.name g.size g.bytes)) (sym of_new) (λ tells image left.
              ap (λ (l : List ℕ). take (length g.bytes) l) (settled tells image left ∙ grew (md.images_tell tells) ∙ ap (λ (l : List ℕ). l ++ bytes) (part.1 (md.images_tell tells))) ∙ take_prefix g.bytes bytes),
          λ told. subst (λ (i : I). mi.part i ≡ Given) (sym same) (is_given told),
        );
        gone = λ file gives. absurd (no_file state (message_of message) MoreBytes is (λ e. cc e) file gives);
        answer = is;
        shown = λ told tells. subst (λ (s : State). ShowsFile mi old.inbox new.inbox number s Grown) (sym g.was) (ap mi.shown same);
        during = λ told tells names bytes' left. inl (grow_leaves number at n state g.name g.size g.bytes old new e f has g.was of_old same of_new long moved told tells names bytes' left);
        later = subst (λ (i : I). mi.count old.inbox ≤ mi.count i) (sym same) (omega arith);
        why_not = tt;
      }

  pub grown_not : (number at n : ℕ) (message : List ℕ) (state : State) (old new : Gatherer I D) (e f : D) (faults : ℕ) → HasCome mi md old state → answer state (message_of message) ≡ MoreBytes
      → old.part ≡ Some e → new.inbox ≡ old.inbox → new.part ≡ Some f → (md.tells → length (md.reading e) ≡ at) → Moves md (Torn at n) e f → IsDevice md e f faults
      → Places mi md number message state old new (Err (Device faults))
  grown_not number at n message state old new e f faults has is of_old same of_new long moved failed =
      let g = grows state (message_of message) is in
      record {
        come = tt;
        still = tt;
        gone = tt;
        answer = tt;
        shown = tt;
        during = λ told tells names bytes left. inl (grow_leaves number at n state g.name g.size g.bytes old new e f has g.was of_old same of_new long moved told tells names bytes left);
        later = subst (λ (i : I). mi.count old.inbox ≤ mi.count i) (sym same) (omega arith);
        why_not = inr (subst (λ (p : Option D). PartFailed md p new.part faults) (sym of_old) (subst (λ (p : Option D). PartFailed md (Some e) p faults) (sym of_new) failed));
      }

  show_leaves : (number : ℕ) (message : List ℕ) (state : State) (name : List ℕ) (size : ℕ) (held : List ℕ) (old new : Gatherer I D) (e : D) → HasCome mi md old state → state ≡ Inside name size held
      → given state (message_of message) ≡ record { name = name; bytes = held } ∷ []
      → old.part ≡ Some e → new.part ≡ None → Turns mi (IsShowing mi old.inbox name number (md.reading e)) old.inbox new.inbox
      → mi.tells_images → md.tells_images → (names : Names) (bytes : List ℕ) → CrashesIn mi md old new names bytes
      → IsAsBefore mi old.inbox state names bytes ⊎ IsShown mi old.inbox number message state names
  show_leaves number message state name size held old new e has was gives of_old of_new turns told tells names bytes left =
      let part : HoldsPart md (Some e) (Inside name size held) = subst (λ (p : Option D). HoldsPart md p (Inside name size held)) of_old (subst (λ (s : State). HoldsPart md old.part s) was has.part) in
      let reads = part.1 (md.images_tell tells) in
      let is_given : mi.part old.inbox ≡ Given = subst (λ (s : State). IsGivenFor s (mi.part old.inbox)) was (has.given (mi.images_tell told)) in
      let left_bytes : md.images e bytes = subst (λ (p : Option D). MayLeavePart md (Some e) p bytes) of_new (subst (λ (p : Option D). MayLeavePart md p new.part bytes) of_old left.of_part) in
      ⊎_elim
      (λ before.
      let are = names_before old.inbox names has.durable told before in
      inl (record {
        shown = ap (λ (x : Names). x.shown) are;
        part = subst (λ (s : State). PartStands s (part_left names bytes)) (sym was)
            (part_before name size held names bytes (part_there old.inbox names are is_given)
            (ap (λ (l : List ℕ). take (length held) l) (part.0 tells bytes left_bytes ∙ reads) ∙ whole_part held));
      }))
      (λ showing. inr (record {
        file = record { name = name; bytes = held };
        gives = gives;
        showing = subst (λ (l : List ℕ). IsShowing mi old.inbox name number l names) reads showing;
      }))
      (turns.each told (mi.moment old.inbox) names (omega arith) left.of_folder)

  gives_whole : (state : State) (m : Message) (name : List ℕ) (size : ℕ) (held : List ℕ) → state ≡ Inside name size held → m ≡ End (sha256 held) → is_whole size held (sha256 held) ≡ true
      → given state m ≡ record { name = name; bytes = held } ∷ []
  gives_whole state m name size held was is whole =
      (λ i. given (was i) (is i)) ∙ ap (λ b. if b then record { name = name; bytes = held } ∷ [] else []) whole

  some_file : (state : State) (m : Message) (name : List ℕ) (size : ℕ) (held : List ℕ) → state ≡ Inside name size held → m ≡ End (sha256 held) → is_whole size held (sha256 held) ≡ true
      → given state m ≡ [] → ⊥
  some_file state m name size held was is whole none = let some = gives_whole state m name size held was is whole in absurd (cc (some, none))

  pub shown_whole : (number : ℕ) (message digest : List ℕ) (state : State) (p : Progress) (old new : Gatherer I D) (e : D) (file : ShownFile) → HasCome mi md old state → progress_of state ≡ Some p → answer state (message_of message) ≡ Whole → digest ≡ drop 1 message
      → old.part ≡ Some e → new.part ≡ None → Turns mi (IsShowing mi old.inbox p.name number (md.reading e)) old.inbox new.inbox → IsDurable mi new.inbox → mi.count old.inbox ≤ mi.count new.inbox
      → (mi.tells → mi.part new.inbox ≡ Missing)
      → (mi.tells → IsChosen (mi.free old.inbox) p.name number file.name.bytes)
      → (mi.tells → mi.shown new.inbox ≡ mi.shown old.inbox ++ record { name = file.name.bytes; bytes = md.reading e } ∷ [])
      → file.size ≡ p.size → file.digest ≡ digest
      → Places mi md number message state old new (Ok (Shown file))
  shown_whole number message digest state p old new e file has progress is from of_old of_new turns durable later is_gone chosen shown sized summed =
      let w = completes state (message_of message) is in
      let same : p ≡ record { name = w.name; size = w.size; bytes = length w.bytes } = some_is p (record { name = w.name; size = w.size; bytes = length w.bytes }) (sym progress ∙ ap progress_of w.was) in
      let named : p.name ≡ w.name = ap (λ (q : Progress). q.name) same in
      let sizes : p.size ≡ w.size = ap (λ (q : Progress). q.size) same in
      let now : after state (message_of message) ≡ Between = (λ i. after (w.was i) (w.message i)) in
      let part : HoldsPart md (Some e) (Inside w.name w.size w.bytes) = subst (λ (p : Option D). HoldsPart md p (Inside w.name w.size w.bytes)) of_old (subst (λ (s : State). HoldsPart md old.part s) w.was has.part) in
      let digest_is : digest ≡ sha256 w.bytes = from ∙ ap (λ (l : List ℕ). drop 1 l) (ends_with message (sha256 w.bytes) w.message) in
      record {
        come = record {
          part = subst (λ (p : Option D). HoldsPart md p (after state (message_of message))) (sym of_new) (subst (λ (s : State). HoldsPart md None s) (sym now) tt);
          given = λ told. subst (λ (s : State). IsGivenFor s (mi.part new.inbox)) (sym now) tt;
          durable = durable;
        };
        still = λ none. absurd (some_file state (message_of message) w.name w.size w.bytes w.was w.message w.whole none);
        gone = λ file gives. is_gone;
        answer = subst (λ (s : State). IsAnswer s (answer state (message_of message)) (Shown file)) (sym w.was) (is, sized ∙ sizes ∙ sym w.all, summed ∙ digest_is);
        shown = λ told tells. subst (λ (s : State). ShowsFile mi old.inbox new.inbox number s (Shown file)) (sym w.was) (
          subst (λ (n : List ℕ). IsChosen (mi.free old.inbox) n number file.name.bytes) named (chosen told),
          shown told ∙ ap (λ (l : List ℕ). mi.shown old.inbox ++ record { name = file.name.bytes; bytes = l } ∷ []) (part.1 tells),
        );
        during = λ told tells names bytes left.
            show_leaves number message state w.name w.size w.bytes old new e has w.was (gives_whole state (message_of message) w.name w.size w.bytes w.was w.message w.whole) of_old of_new
            (subst (λ (n : List ℕ). Turns mi (IsShowing mi old.inbox n number (md.reading e)) old.inbox new.inbox) named turns) told tells names bytes left;
        later = later;
        why_not = tt;
      }

  why_not : (name : List ℕ) (size : ℕ) (held : List ℕ) (number : ℕ) (state : State) (old new : Gatherer I D) → state ≡ Inside name size held → (fault : PlaceFault)
      → IsCause mi name number old.inbox new.inbox fault → IsWhyNot mi md number state old new fault
  why_not name size held number state old new was (Device faults) cause = inl cause
  why_not name size held number state old new was NameTaken cause = subst (λ (s : State). IsWhyNot mi md number s old new NameTaken) (sym was) cause

  pub shown_not : (number : ℕ) (message : List ℕ) (state : State) (p : Progress) (old new : Gatherer I D) (e : D) (fault : PlaceFault) (result : Result Placed PlaceFault) → HasCome mi md old state → progress_of state ≡ Some p → answer state (message_of message) ≡ Whole
      → old.part ≡ Some e → new.part ≡ None → Turns mi (IsShowing mi old.inbox p.name number (md.reading e)) old.inbox new.inbox → mi.count old.inbox ≤ mi.count new.inbox
      → IsCause mi p.name number old.inbox new.inbox fault → result ≡ Err fault
      → Places mi md number message state old new result
  shown_not number message state p old new e fault result has progress is of_old of_new turns later cause err =
      let w = completes state (message_of message) is in
      let same : p ≡ record { name = w.name; size = w.size; bytes = length w.bytes } = some_is p (record { name = w.name; size = w.size; bytes = length w.bytes }) (sym progress ∙ ap progress_of w.was) in
      let named : p.name ≡ w.name = ap (λ (q : Progress). q.name) same in
      subst (λ (r : Result Placed PlaceFault). Places mi md number message state old new r) (sym err) (record {
        come = tt;
        still = tt;
        gone = tt;
        answer = tt;
        shown = tt;
        during = λ told tells names bytes left.
            show_leaves number message state w.name w.size w.bytes old new e has w.was (gives_whole state (message_of message) w.name w.size w.bytes w.was w.message w.whole) of_old of_new
            (subst (λ (n : List ℕ). Turns mi (IsShowing mi old.inbox n number (md.reading e)) old.inbox new.inbox) named turns) told tells names bytes left;
        later = later;
        why_not = why_not w.name w.size w.bytes number state old new w.was fault (subst (λ (n : List ℕ). IsCause mi n number old.inbox new.inbox fault) named cause);
      })

  pub held_begins : (part : Option D) (name : List ℕ) (size : ℕ) (held : List ℕ) → HoldsPart md part (Inside name size held) → BeginsPart md part (Inside name size held)
  held_begins None name size held h = h
  held_begins (Some d) name size held h = λ tells image left. ap (λ (l : List ℕ). take (length held) l) (h.0 tells image left ∙ h.1 (md.images_tell tells)) ∙ whole_part held

  unmoved : (part : Option D) (name : List ℕ) (size : ℕ) (held bytes : List ℕ) → BeginsPart md part (Inside name size held) → md.tells_images → MayLeavePart md part part bytes → take (length held) bytes ≡ held
  unmoved None name size held bytes h tells left = absurd h
  unmoved (Some d) name size held bytes h tells left = h tells bytes (md.only_now tells d bytes left)

  pub unmoved_left : (i : I) (part : Option D) (state : State) (names : Names) (bytes : List ℕ) → IsDurable mi i → (mi.tells → IsGivenFor state (mi.part i)) → BeginsPart md part state
      → mi.tells_images → md.tells_images → mi.since i (mi.moment i) names → MayLeavePart md part part bytes → PartStands state (part_left names bytes)
  unmoved_left i part Between names bytes durable is_given begins told tells since left = tt
  unmoved_left i part (Inside n z b) names bytes durable is_given begins told tells since left =
      part_before n z b names bytes (part_there i names (names_before i names durable told since) (is_given (mi.images_tell told))) (unmoved part n z b bytes begins tells left)

  pub dropped : (number : ℕ) (message : List ℕ) (state : State) (p : Progress) (cause : Cause) (g : Gatherer I D) → HasCome mi md g state → progress_of state ≡ Some p → answer state (message_of message) ≡ GivenUp cause
      → Places mi md number message state g g (Ok (Dropped (record { cause = cause; name = p.name })))
  dropped number message state p cause g has progress is =
      let d = drops state (message_of message) cause p progress is in
      let begins : BeginsPart md g.part state = subst (λ (s : State). BeginsPart md g.part s) (sym d.was) (held_begins g.part p.name d.size d.bytes (subst (λ (s : State). HoldsPart md g.part s) d.was has.part)) in
      record {
        come = record {
          part = subst (λ (s : State). HoldsPart md g.part s) (sym d.now) tt;
          given = λ told. subst (λ (s : State). IsGivenFor s (mi.part g.inbox)) (sym d.now) tt;
          durable = has.durable;
        };
        still = λ none. (begins, has.given);
        gone = λ file gives. absurd (some_none d.none gives);
        answer = subst (λ (s : State). IsAnswer s (answer state (message_of message)) (Dropped (record { cause = cause; name = p.name }))) (sym d.was) (is, refl);
        shown = λ told tells. subst (λ (s : State). ShowsFile mi g.inbox g.inbox number s (Dropped (record { cause = cause; name = p.name }))) (sym d.was) refl;
        during = λ told tells names bytes left. inl (record {
          shown = ap (λ (x : Names). x.shown) (names_before g.inbox names has.durable told left.of_folder);
          part = unmoved_left g.inbox g.part state names bytes has.durable has.given begins told tells left.of_folder left.of_part;
        });
        later = omega arith;
        why_not = tt;
      }

  same_cause : (number : ℕ) (state : State) (old : Gatherer I D) (assembly : Assembly) (new : Gatherer I D) (fault : PlaceFault)
      → IsWhyNot mi md number state (record { inbox = old.inbox; part = old.part; assembly = assembly }) new fault → IsWhyNot mi md number state old new fault
  same_cause number state old assembly new (Device faults) h = h
  same_cause number (Inside n z b) old assembly new NameTaken h = h
  same_cause number Between old assembly new NameTaken h = h

  same_why : (number : ℕ) (state : State) (old : Gatherer I D) (assembly : Assembly) (new : Gatherer I D) (result : Result Placed PlaceFault)
      → IfErr result (λ fault. IsWhyNot mi md number state (record { inbox = old.inbox; part = old.part; assembly = assembly }) new fault) → IfErr result (λ fault. IsWhyNot mi md number state old new fault)
  same_why number state old assembly new (Ok placed) h = tt
  same_why number state old assembly new (Err fault) h = same_cause number state old assembly new fault h

  -- what a step did is told of the gatherer before its assembly took the message
  pub same_places : (number : ℕ) (message : List ℕ) (state : State) (old : Gatherer I D) (assembly : Assembly) (new : Gatherer I D) (result : Result Placed PlaceFault)
      → Places mi md number message state (record { inbox = old.inbox; part = old.part; assembly = assembly }) new result → Places mi md number message state old new result
  same_places number message state old assembly new result h = record {
    come = h.come;
    still = h.still;
    gone = h.gone;
    answer = h.answer;
    shown = h.shown;
    during = λ told tells names bytes left. h.during told tells names bytes (record { of_folder = left.of_folder; of_part = left.of_part });
    later = h.later;
    why_not = same_why number state old assembly new result h.why_not;
  }

  pub same_come : (old : Gatherer I D) (assembly : Assembly) (state : State) → HasCome mi md old state → HasCome mi md (record { inbox = old.inbox; part = old.part; assembly = assembly }) state
  same_come old assembly state h = record { part = h.part; given = h.given; durable = h.durable }

-- the last message of a whole file has a digest
pub digest_length : (state : State) (message : List ℕ) → answer state (message_of message) ≡ Whole → length (drop 1 message) ≡ 32
digest_length state message is =
    let w = completes state (message_of message) is in
    ap (λ (l : List ℕ). length (drop 1 l)) (ends_with message (sha256 w.bytes) w.message) ∙ length-sha256 w.bytes
