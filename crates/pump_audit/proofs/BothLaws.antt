-- The lines of a stream that are two records.
use Rattle.std.proofs.Common.{◌≡◌, ◌≢◌, ◌⊎◌, inl, inr, ℕ, ◌+◌, ◌^◌, Bool, true, false, List, [], ◌∷◌, ◌++◌, Option, None, Some, IfSome, refl, sym, ap, ◌∙◌, subst, arith}
use Rattle.std.specs.Prelude.{MatchOption, if◌then◌else◌}
use Rattle.std.specs.Io.KnownBytes.{Consumes, IsAtEnd}
use Rattle.script_reader.proofs.OneReading.{taken, not_nothing}
use Rattle.pump_audit.specs.declared.compared.Compared.{Compared}
use Rattle.pump_audit.specs.declared.compared.Compared.TheVariants.{Agree, Differ, NotRecord}
use Rattle.pump_audit.specs.declared.entry.Entry.{Entry}
use Rattle.pump_audit.specs.declared.side.Side.{Side}
use Rattle.pump_audit.specs.declared.texts.Texted.{Texted}
use Rattle.pump_audit.specs.declared.texts.Texted.TheVariants.{Cut, End}
use Rattle.pump_audit.specs.Comparing.{ItemTold, SideTold, form_of, Lists, BeginsSide, BreaksSide, BreaksAt, AreSide, EndsSide, separator, SidesAre, IsCompared}
use Rattle.pump_audit.specs.Entries.{IsEntry}
use Rattle.pump_audit.specs.Places.{may_end, ends_at}
use Rattle.pump_audit.specs.Siding.{BeginsAs, GoesOnBy, IsNone, SideGoes, SideEnds, SideComes}
use Rattle.pump_audit.specs.Texts.{IsText, IsCut, IsNextText}

longer : (bytes : List ℕ) (was : Option SideTold) (text rest : List ℕ) (e : Entry) (q : SideTold) → BeginsSide bytes was (text ++ 10 ∷ rest) → IsText text → IsEntry e text → Lists was e q → BeginsSide bytes (Some q) rest
longer bytes was text rest e q b is entry lists = record { texts = text ∷ b.texts; side_of = (was, b.side_of, is, e, entry, q, lists, refl); whole = b.whole }

left_is : (old new : Option (List ℕ)) (rest text : List ℕ) → old ≡ Some rest → Consumes old new (text ++ 10 ∷ []) → (more : List ℕ) × (new ≡ Some more) × (rest ≡ text ++ 10 ∷ more)
left_is old new rest text known c = taken rest text new (subst (λ o. Consumes o new (text ++ 10 ∷ [])) known c)

module _ (first : Option (List ItemTold)) (is_first : Bool) (before : ℕ) (bytes : List ℕ) (v : Side) (lines : ℕ) (old : Option (List ℕ)) (goes : SideGoes first is_first before bytes v lines old) where
  abbrev s : SideTold
  s = goes.so_far

  breaks : BreaksSide is_first before (Some s) goes.rest → BreaksAt is_first before bytes (lines + 1)
  breaks h = record { so_far = Some s; rest = goes.rest; begins = goes.begins; breaks = h; number = ap (λ n. n + 1) goes.number }

  may : ends_at v.place ≡ may_end (Some (form_of s))
  may = ap ends_at goes.stands.place

  pub cut_off : IfSome old IsCut → BreaksAt is_first before bytes (lines + 1)
  cut_off h = breaks (inr (inl (subst (λ o. IfSome o IsCut) goes.known h)))

  pub too_many : (new : Option (List ℕ)) (text : List ℕ) → lines + 1 ≡ 2 ^ 32 → Consumes old new (text ++ 10 ∷ []) → BreaksAt is_first before bytes (lines + 1)
  too_many new text last c =
      let left = left_is old new goes.rest text goes.known c in
      breaks (inr (inr (inl ((λ e. not_nothing text left.0 (sym left.2 ∙ e)), omega (arith, last, goes.number)))))

  pub outside : (new : Option (List ℕ)) (text : List ℕ) → IsText text → Consumes old new (text ++ 10 ∷ []) → (is_first ≡ true → ends_at v.place ≡ true → text ≢ separator) → IsNone (Some s) text → BreaksAt is_first before bytes (lines + 1)
  outside new text is c other none =
      let left = left_is old new goes.rest text goes.known c in
      breaks (inl (text, left.0, is, left.2, record { none = none; other = λ f e. other f (may ∙ e) }))

  pub goes_on : (n : ℕ) → n ≡ lines → (new : Option (List ℕ)) (text : List ℕ) (w : Side) → IsText text → Consumes old new (text ++ 10 ∷ []) → GoesOnBy first s text w true → SideGoes first is_first before bytes w (n + 1) new
  goes_on n same new text w is c h =
      let left = left_is old new goes.rest text goes.known c in
      record {
        so_far = h.2;
        rest = left.0;
        stands = h.4;
        begins = longer bytes (Some s) text left.0 h.0 h.2 (subst (BeginsSide bytes (Some s)) left.2 goes.begins) is h.1 h.3;
        known = left.1;
        number = omega (arith, goes.number, h.5, same);
      }

  pub separated : (n : ℕ) → n ≡ lines → (new : Option (List ℕ)) (text : List ℕ) → Consumes old new (text ++ 10 ∷ []) → is_first ≡ true → ends_at v.place ≡ true → text ≡ separator → SideEnds first is_first before bytes v (n + 1) new
  separated n same new text c here ends is =
      let left = left_is old new goes.rest text goes.known c in
      record {
        side = s;
        left = left.0;
        stands = goes.stands;
        are = record {
          rest = goes.rest;
          begins = goes.begins;
          ends = subst (λ (b : Bool). EndsSide b s goes.rest left.0) (sym here) (sym may ∙ ends, left.2 ∙ ap (λ t. t ++ 10 ∷ left.0) is);
        };
        known = λ f. left.1;
        number = subst (λ (b : Bool). n + 1 ≡ before + s.lines + (if b then 1 else 0)) (sym here) (omega (arith, goes.number, same));
      }

  ended : (new : Option (List ℕ)) → IsAtEnd old → is_first ≡ false → ends_at v.place ≡ true → SideEnds first is_first before bytes v lines new
  ended new at_end other ends =
      let none : goes.rest ≡ [] = subst (λ o. IsAtEnd o) goes.known at_end in
      record {
        side = s;
        left = [];
        stands = goes.stands;
        are = record {
          rest = goes.rest;
          begins = goes.begins;
          ends = subst (λ (b : Bool). EndsSide b s goes.rest []) (sym other) (sym may ∙ ends, none, refl);
        };
        known = λ f. absurd (let both = sym other ∙ f in cc);
        number = subst (λ (b : Bool). lines ≡ before + s.lines + (if b then 1 else 0)) (sym other) (omega (arith, goes.number));
      }

  unended : IsAtEnd old → (is_first ≡ true) ⊎ (ends_at v.place ≡ false) → BreaksAt is_first before bytes (lines + 1)
  unended at_end (inl here) = breaks (inr (inr (inr (subst (λ o. IsAtEnd o) goes.known at_end, inl here))))
  unended at_end (inr ends) = breaks (inr (inr (inr (subst (λ o. IsAtEnd o) goes.known at_end, inr (sym may ∙ ends)))))

  pub end_comes : (new : Option (List ℕ)) (o : Option Side) → IsAtEnd old → MatchOption o ((is_first ≡ true) ⊎ (ends_at v.place ≡ false)) (λ w. (w ≡ v) × (is_first ≡ false) × (ends_at v.place ≡ true)) → SideComes first is_first before bytes o lines new
  end_comes new None at_end h = unended at_end h
  end_comes new (Some w) at_end h = subst (λ (x : Side). SideEnds first is_first before bytes x lines new) (sym h.0) (ended new at_end h.1 h.2)

-- ---- a first line ----

nothing_yet : (bytes : List ℕ) → BeginsSide bytes None bytes
nothing_yet bytes = record { texts = []; side_of = refl; whole = refl }

module _ (first : Option (List ItemTold)) (is_first : Bool) (lines : ℕ) (bytes : List ℕ) (old : Option (List ℕ)) (known : old ≡ Some bytes) where
  first_breaks : BreaksSide is_first lines None bytes → BreaksAt is_first lines bytes (lines + 1)
  first_breaks h = record { so_far = None; rest = bytes; begins = nothing_yet bytes; breaks = h; number = omega arith }

  pub first_none : (new : Option (List ℕ)) (text : List ℕ) (t : Texted) → (t ≡ Cut) ⊎ (t ≡ End) → IsNextText old new text t → BreaksAt is_first lines bytes (lines + 1)
  first_none new text t (inl e) next = first_breaks (inr (inl (subst (λ o. IfSome o IsCut) known (subst (IsNextText old new text) e next))))
  first_none new text t (inr e) next = first_breaks (inr (inr (inr (subst (λ o. IsAtEnd o) known (subst (IsNextText old new text) e next), inr refl))))

  pub first_full : (new : Option (List ℕ)) (text : List ℕ) → lines + 1 ≡ 2 ^ 32 → Consumes old new (text ++ 10 ∷ []) → BreaksAt is_first lines bytes (lines + 1)
  first_full new text last c =
      let left = left_is old new bytes text known c in
      first_breaks (inr (inr (inl ((λ e. not_nothing text left.0 (sym left.2 ∙ e)), omega (arith, last)))))

  pub first_outside : (new : Option (List ℕ)) (text : List ℕ) → IsText text → Consumes old new (text ++ 10 ∷ []) → BeginsAs first text None → BreaksAt is_first lines bytes (lines + 1)
  first_outside new text is c none =
      let left = left_is old new bytes text known c in
      first_breaks (inl (text, left.0, is, left.2, record { none = none; other = λ f e. absurd (cc) }))

  pub first_goes : (n : ℕ) → n ≡ lines → (new : Option (List ℕ)) (text : List ℕ) (v : Side) → IsText text → Consumes old new (text ++ 10 ∷ []) → BeginsAs first text (Some v) → SideGoes first is_first lines bytes v (n + 1) new
  first_goes n same new text v is c h =
      let left = left_is old new bytes text known c in
      record {
        so_far = h.2;
        rest = left.0;
        stands = h.4;
        begins = longer bytes None text left.0 h.0 h.2 (subst (BeginsSide bytes None) left.2 (nothing_yet bytes)) is h.1 h.3;
        known = left.1;
        number = omega (arith, h.5, same);
      }

-- ---- both ----

pub first_not : (bytes : List ℕ) (line n : ℕ) → line ≡ n + 1 → BreaksAt true 0 bytes (n + 1) → IsCompared bytes (NotRecord line)
first_not bytes line n e h = inl (subst (BreaksAt true 0 bytes) (sym e) h)

pub second_not : (bytes : List ℕ) (v : Side) (lines line n : ℕ) (mid : Option (List ℕ)) (first : SideEnds None true 0 bytes v lines mid) → line ≡ n + 1 → BreaksAt false lines first.left (n + 1) → IsCompared bytes (NotRecord line)
second_not bytes v lines line n mid first e h =
    let before : lines ≡ first.side.lines + 1 = omega (arith, first.number) in
    inr (first.side, first.left, first.are, subst (λ (x : ℕ × ℕ). BreaksAt false x.0 first.left x.1) (λ i. (before i, sym e i)) h)

pub both_are : (bytes : List ℕ) (v w : Side) (lines more : ℕ) (mid end : Option (List ℕ)) (first : SideEnds None true 0 bytes v lines mid) (second : SideEnds (Some first.side.items) false lines first.left w more end) (r : Compared)
    → SidesAre first.side second.side r → IsCompared bytes r
both_are bytes v w lines more mid end first second (NotRecord line) h = absurd h
both_are bytes v w lines more mid end first second (Agree items) h =
    (first.side, second.side, record { left = first.left; first = first.are; second = subst (AreSide false first.left second.side) second.are.ends.2 second.are }, h)
both_are bytes v w lines more mid end first second (Differ item x) h =
    (first.side, second.side, record { left = first.left; first = first.are; second = subst (AreSide false first.left second.side) second.are.ends.2 second.are }, h)
