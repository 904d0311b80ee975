-- Disks of one world, each with an unfinished call kept or not.
use Rattle.std.proofs.Common.{◌≡◌, inl, inr, ℕ, ◌+◌, ◌-◌, ◌^◌, ◌<◌, ◌≤◌, ◌&&◌, nat_le, if◌then◌else◌, true, false, Bool, List, [], ◌∷◌, ◌++◌, length, get_or, slice_get, drop, Option, Some, None, refl, sym, ◌∙◌, ap, subst, arith, length-drop, length-append}
use Rattle.std.proofs.lemmas.Bool.{cases_lt}
use Rattle.std.proofs.lemmas.List.{get_or-drop, get_or_append_left, get_or_at}
use Rattle.std.proofs.lemmas.Option.{slice_get_within, get_or_from_slice_get}
use Rattle.pump_core.specs.World.{World}
use Rattle.pump_core.specs.Lawful.{StoresWithPlace, IsPrefixOf, IsNext, IsLawful}
use Rattle.stable_buffer.specs.Register.{value_of}
use Rattle.stable_buffer.specs.Stands.{InSlot}
use Rattle.pump_frame.specs.declared.row.SessionRow.{SessionRow}
use Rattle.disk_model.specs.declared.name.Role.TheVariants.{Low, High}
use Rattle.recovery.specs.Refusals.{refused_disk, refused_pair, refused_pump, bad_slot, told_of, or_else}
use Rattle.recovery.specs.Agreement.{SlotsAgree, Disagrees}
use Rattle.recovery.specs.Joint.{kept_with, taking_of, accepted_if, removed_if, received_if, EachTripleOpens, EachWorldOpens}
use Rattle.recovery.specs.declared.why.Why.{Why}
use Rattle.recovery.specs.declared.why.Why.TheVariants.{Device, NotABuffer, WrongShape, BadRegister, Mismatch, BadSlot, Apart, Differs, NotEmpty, Small, TooLong}
use Rattle.recovery.proofs.Rows.{row_message}
use Rattle.recovery.proofs.Accepts.{FitsRow, low_none, high_none, recv_none, slots_none}

-- ---- a list with an unfinished message kept or not ----

kept_longer : (k : Bool) (x : Option (List ℕ)) (ps : List (List ℕ)) → length ps ≤ length (kept_with k x ps)
kept_longer true (Some p) ps = omega (arith, length-append ps (p ∷ []))
kept_longer true None ps = omega arith
kept_longer false x ps = omega arith

kept_most : (k : Bool) (x : Option (List ℕ)) (ps : List (List ℕ)) → length (kept_with k x ps) ≤ length (kept_with true x ps)
kept_most true x ps = omega arith
kept_most false x ps = kept_longer true x ps

kept_get : (k : Bool) (x : Option (List ℕ)) (ps : List (List ℕ)) (n : ℕ) → n < length ps → get_or (kept_with k x ps) n [] ≡ get_or ps n []
kept_get true (Some p) ps n lt = get_or_append_left ps (p ∷ []) [] n lt
kept_get true None ps n lt = refl
kept_get false x ps n lt = refl

kept_fits : (k : Bool) (x : Option (List ℕ)) (capacity removed : ℕ) (hand : Option ℕ) (ps : List (List ℕ)) → 3 ≤ capacity → removed ≤ length ps → length ps ≤ removed + capacity
    → StoresWithPlace capacity removed (length ps) hand x → length (kept_with k x ps) ≤ removed + capacity
kept_fits true (Some p) capacity removed hand ps some below above store = let place = store.place in omega (arith, length-append ps (p ∷ []), place, some, below)
kept_fits true None capacity removed hand ps some below above store = above
kept_fits false x capacity removed hand ps some below above store = above

removed_order : (k removing : Bool) (B R : ℕ) → B ≤ R → (removing ≡ true → B < R) → (B ≤ (if k && removing then B + 1 else B)) × ((if k && removing then B + 1 else B) ≤ R)
removed_order true true B R le due = (omega arith, omega (arith, due refl))
removed_order true false B R le due = (omega arith, le)
removed_order false removing B R le due = (omega arith, le)

-- the receiver's list, with the packet or without, is a prefix
record IsPrefix (ps qs : List (List ℕ)) : Type 0 where
  pub length' : length ps ≤ length qs
  pub same : (n : ℕ) → n < length ps → get_or ps n [] ≡ get_or qs n []

prefix_of : (ps qs : List (List ℕ)) → IsPrefixOf ps qs → IsPrefix ps qs
prefix_of ps qs (rest, is) = record {
  length' = omega (arith, ap length is, length-append ps rest);
  same = λ n lt. sym (get_or_append_left ps rest [] n lt) ∙ ap (λ (l : List (List ℕ)). get_or l n []) is;
}

prefix_more : (ps qs : List (List ℕ)) (p : List ℕ) → IsPrefix ps qs → slice_get qs (length ps) ≡ Some p → IsPrefix (ps ++ p ∷ []) qs
prefix_more ps qs p f at = record {
  length' = let t = slice_get_within qs (length ps) p at in omega (arith, t, length-append ps (p ∷ []));
  same = λ n lt. elim (cases_lt n (length ps)) [
    | inl early ↦ get_or_append_left ps (p ∷ []) [] n early ∙ f.same n early
    | inr late ↦
        let e : n ≡ length ps = omega (arith, lt, late, length-append ps (p ∷ [])) in
        get_or_at ps p [] [] n (sym e) ∙ sym (ap (λ j. get_or qs j []) e ∙ get_or_from_slice_get qs (length ps) p [] at)
  ];
}

prefix_kept : (k taking : Bool) (packet : Option (List ℕ)) (received accepted : List (List ℕ)) → IsPrefix received accepted → IsNext accepted received packet taking
    → IsPrefix (kept_with k (if taking then packet else None) received) accepted
prefix_kept true true (Some p) received accepted f next = prefix_more received accepted p f next
prefix_kept true true None received accepted f next = f
prefix_kept true false packet received accepted f next = f
prefix_kept false taking packet received accepted f next = f

-- ---- the refusals ----

le_true : (a b : ℕ) → a ≤ b → nat_le a b ≡ true
le_true a b le = grind (arith, le)

pump_none : (row : SessionRow) (low high : List ℕ) (E B : ℕ) → refused_disk row Low low ≡ None → refused_disk row High high ≡ None → value_of low ≡ (E, 0) → value_of high ≡ (B, 0)
    → B ≤ E → E ≤ B + row.capacity → bad_slot row low B (E - B) ≡ None → refused_pump row low high ≡ None
pump_none row low high E B one two is_low is_high below above slots =
    let yes : nat_le B E ≡ true = le_true B E below in
    let also : nat_le E (B + row.capacity) ≡ true = le_true E (B + row.capacity) above in
    let pair : refused_pair row B E low ≡ None = rw (yes, also, slots) refl in
    let there : refused_pair row (value_of high).0 (value_of low).0 low ≡ None = (λ i. refused_pair row (is_high i).0 (is_low i).0 low) ∙ pair in
    (λ i. or_else (told_of Low (one i)) (or_else (told_of High (two i)) (refused_pair row (value_of high).0 (value_of low).0 low))) ∙ there

-- lists that agree aren't refused
pub never_apart : (row : SessionRow) (removed count accepted : ℕ) (ms : List (List ℕ)) (low : List ℕ) (why : Why) → removed ≤ count → count ≤ accepted → SlotsAgree row removed count ms low → Disagrees row removed count accepted ms low why → ⊥
never_apart row removed count accepted ms low (Apart found bound) up down all (_, inl (less, _)) = omega (arith, less, up)
never_apart row removed count accepted ms low (Apart found bound) up down all (_, inr (_, more, _)) = omega (arith, more, down)
never_apart row removed count accepted ms low (Differs n) up down all (_, _, from, to, _, other) = other (all n from to)
never_apart row removed count accepted ms low (Device a) up down all d = d
never_apart row removed count accepted ms low (NotABuffer a b) up down all d = d
never_apart row removed count accepted ms low (WrongShape a b c) up down all d = d
never_apart row removed count accepted ms low (BadRegister a b) up down all d = d
never_apart row removed count accepted ms low (Mismatch a b) up down all d = d
never_apart row removed count accepted ms low (BadSlot a b) up down all d = d
never_apart row removed count accepted ms low (NotEmpty a) up down all d = d
never_apart row removed count accepted ms low (Small a b) up down all d = d
never_apart row removed count accepted ms low (TooLong a b) up down all d = d

pub each_triple : EachTripleOpens
each_triple row w size stored removed taken low high recv lawful r s =
    let b = lawful.bounded in
    let d = lawful.delivered in
    let acc = accepted_if w stored in
    let E = length acc in
    let B = removed_if w removed in
    let rec = received_if w taken in
    let R = length rec in
    let some : 3 ≤ w.capacity = b.size.0 in
    let fits : FitsRow row = record { session = r.session; capacity = let c = r.capacity in let m = b.size.1 in omega (arith, c, m); message = r.message } in
    let longer : length w.accepted ≤ E = kept_longer stored w.storing w.accepted in
    let small : E ≤ 2 ^ 48 = let c = r.count in omega (arith, kept_most stored w.storing w.accepted, c) in
    let below = b.within.below in
    let above : E ≤ w.removed + w.capacity = kept_fits stored w.storing w.capacity w.removed w.low_hand w.accepted some below b.within.above b.store in
    let order = removed_order removed w.removing w.removed (length w.received) d.removed (λ is. d.due (b.removal.cause is)) in
    let prefix : IsPrefix rec w.accepted = prefix_kept taken w.taking w.packet w.received w.accepted (prefix_of w.received w.accepted d.prefix) d.packet in
    let taken' : length w.received ≤ R = kept_longer taken (taking_of w) w.received in
    let reached : R ≤ length w.accepted = prefix.length' in
    let size_of : length (drop w.removed acc) ≡ E - w.removed = length-drop w.removed acc in
    let in_slot : (n : ℕ) → w.removed ≤ n → n < E → InSlot row n (get_or acc n []) low = λ n from to.
    let j = n - w.removed in
    let e : w.removed + j ≡ n = omega (arith, from) in
    subst (λ (m : List ℕ). InSlot row n m low) (get_or-drop w.removed acc j [] ∙ ap (λ k. get_or acc k []) e)
    (subst (λ k. InSlot row k (get_or (drop w.removed acc) j []) low) e (s.low_stands.slots j (omega (arith, size_of, from, to)))) in
    let c = r.capacity in
    let m = r.message in
    let up = order.0 in
    let down = order.1 in
    let before : B ≤ R = omega (arith, down, taken') in
    let within : R ≤ E = omega (arith, reached, longer) in
    let slots : SlotsAgree row B R rec low = λ n from to.
    subst (λ (x : List ℕ). InSlot row n x low) (kept_get stored w.storing w.accepted n (omega (arith, to, reached)) ∙ sym (prefix.same n to)) (in_slot n (omega (arith, from, up)) (omega (arith, to, reached, longer))) in
    record {
      found = (ap (λ v. v.0) s.low_stands.value, ap (λ v. v.0) s.high_stands.value, ap (λ v. v.0) s.recv_stands.value);
      pump = pump_none row low high E B (low_none row fits E w.removed (drop w.removed acc) low small s.low_stands) (high_none row fits B high (omega (arith, down, taken', reached, longer, small)) s.high_stands) s.low_stands.value s.high_stands.value
          (omega (arith, down, taken', reached, longer)) (omega (arith, above, up, c))
          (slots_none row m low B (E - B) (λ i from to. (get_or acc i [], in_slot i (omega (arith, from, up)) (omega (arith, to, down, taken', reached, longer)))));
      receiver = recv_none row fits size rec recv (omega (arith, reached, longer, small)) r.room s.recv_stands;
      order = (before, within);
      agree = slots;
      never = λ why. never_apart row B R E rec low why before within slots;
    }

-- ---- disks of a world as it is ----

-- the world with no call unfinished
abbrev finished : World → World
finished w = record w { storing = None; removing = false; packet = None; taking = false }

finished_lawful : (w : World) → IsLawful w → IsLawful (finished w)
finished_lawful w l =
    let b = l.bounded in
    let d = l.delivered in
    record {
      bounded = record {
        size = b.size;
        within = b.within;
        order = b.order;
        store = tt;
        removal = record { hand = b.removal.hand; cause = λ is. absurd (cc) };
        sent = b.sent;
        acknowledged = b.acknowledged;
      };
      delivered = record { prefix = d.prefix; removed = d.removed; due = d.due; packet = refl; returned = d.returned };
    }

pub each_world : EachWorldOpens
each_world row w size low high recv lawful small s = each_triple row (finished w) size false false false low high recv (finished_lawful w s.lawful)
    (record { capacity = sym s.capacity; message = row_message row lawful; session = small; count = s.count; room = s.room })
    (record { low_stands = s.low_stands; high_stands = s.high_stands; recv_stands = s.recv_stands })
