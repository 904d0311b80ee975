-- The lines of a stream that are a record.
use Rattle.std.proofs.Common.{◌≡◌, ◌⊎◌, inl, inr, ℕ, ◌+◌, ◌^◌, ◌<◌, List, [], ◌∷◌, ◌++◌, Option, None, Some, IfSome, refl, sym, ap, ◌∙◌, subst, arith}
use Rattle.std.specs.Io.KnownBytes.{prepend_known, Consumes, IsAtEnd}
use Rattle.script_reader.proofs.OneReading.{taken, not_nothing}
use Rattle.pump_audit.specs.declared.entry.Entry.{Entry}
use Rattle.pump_audit.specs.declared.state.Audit.{Audit}
use Rattle.pump_audit.specs.declared.verdict.Verdict.{Verdict}
use Rattle.pump_audit.specs.declared.verdict.Verdict.TheVariants.{Yes, No}
use Rattle.pump_audit.specs.Auditing.{TextIs, EndIs, Reads, OpensAs}
use Rattle.pump_audit.specs.Entries.{IsEntry}
use Rattle.pump_audit.specs.Records.{Record, Follows}
use Rattle.pump_audit.specs.declared.texts.Texted.{Texted}
use Rattle.pump_audit.specs.declared.texts.Texted.TheVariants.{Cut, End}
use Rattle.pump_audit.specs.Texts.{IsText, IsCut, IsNextText}
use Rattle.pump_audit.specs.Verdicts.{Begins, IsVerdict, RestHasCause, HasCause}

-- one more line
longer : (bytes : List ℕ) (was : Option Record) (text rest : List ℕ) (e : Entry) (q : Record) → Begins bytes was (text ++ 10 ∷ rest) → IsText text → IsEntry e text → Follows was e q → q.lines < 2 ^ 32 → Begins bytes (Some q) rest
longer bytes was text rest e q b is entry follows few = record {
  texts = text ∷ b.texts;
  record_of = (was, b.record_of, is, e, entry, q, follows, refl);
  whole = b.whole;
  few = few;
}

-- what is left begins with the line that came
left_is : (old new : Option (List ℕ)) (rest text : List ℕ) → old ≡ Some rest → Consumes old new (text ++ 10 ∷ []) → (more : List ℕ) × (new ≡ Some more) × (rest ≡ text ++ 10 ∷ more)
left_is old new rest text known c = taken rest text new (subst (λ o. Consumes o new (text ++ 10 ∷ [])) known c)

module _ (bytes : List ℕ) (a : Audit) (old : Option (List ℕ)) (reads : Reads bytes a old) where
  abbrev r : Record
  r = reads.so_far

  wrong : (line cause : ℕ) → line ≡ a.lines + 1 → RestHasCause (Some r) reads.rest cause → IsVerdict bytes (No line cause)
  wrong line cause is h = inl (Some r, reads.rest, reads.begins, h, is ∙ ap (λ n. n + 1) reads.audits.counts.lines)

  pub goes_on : (b : Audit) (new : Option (List ℕ)) (text : List ℕ) → IsText text → Consumes old new (text ++ 10 ∷ []) → TextIs r text b None → b.lines < 2 ^ 32 → Reads bytes b new
  goes_on b new text is c t few =
      let left = left_is old new reads.rest text reads.known c in
      record {
        so_far = t.2;
        rest = left.0;
        audits = t.4;
        begins = longer bytes (Some r) text left.0 t.0 t.2 (subst (Begins bytes (Some r)) left.2 reads.begins) is t.1 t.3 (omega (arith, few, t.4.counts.lines));
        known = left.1;
      }

  pub stops : (new : Option (List ℕ)) (text : List ℕ) (line cause : ℕ) → line ≡ a.lines + 1 → a.lines + 1 < 2 ^ 32 → IsText text → Consumes old new (text ++ 10 ∷ []) → HasCause (Some r) text cause → IsVerdict bytes (No line cause)
  stops new text line cause at few is c h =
      let left = left_is old new reads.rest text reads.known c in
      wrong line cause at (inl (text, left.0, is, left.2, omega (arith, few, reads.audits.counts.lines), h))

  pub cut_off : (line : ℕ) → line ≡ a.lines + 1 → IfSome old IsCut → IsVerdict bytes (No line 1)
  cut_off line at h = wrong line 1 at (inr (inl (refl, subst (λ o. IfSome o IsCut) reads.known h)))

  pub too_many : (new : Option (List ℕ)) (text : List ℕ) (line : ℕ) → line ≡ a.lines + 1 → a.lines + 1 ≡ 2 ^ 32 → Consumes old new (text ++ 10 ∷ []) → IsVerdict bytes (No line 1)
  too_many new text line at last c =
      let left = left_is old new reads.rest text reads.known c in
      wrong line 1 at (inr (inr (inl (refl, (λ e. not_nothing text left.0 (sym left.2 ∙ e)), omega (arith, last, reads.audits.counts.lines)))))

  pub ends : (v : Verdict) → IsAtEnd old → EndIs r v → IsVerdict bytes v
  ends v at_end is = said v is (subst (λ o. IsAtEnd o) reads.known at_end)
    where
      said : (v : Verdict) → EndIs r v → reads.rest ≡ [] → IsVerdict bytes v
      said (Yes looks acks times) k e =
          (r, record { whole = record { begins = subst (Begins bytes (Some r)) e reads.begins; ends = k.0.ends; told = k.0.told }; claims = k.1; end = k.2 }, k.3, k.4, k.5)
      said (No line cause) (inl k) e = inl (Some r, reads.rest, reads.begins, inr (inr (inr (e, k.0))), k.1)
      said (No line cause) (inr (inl k)) e = inr (inl (r, record { begins = subst (Begins bytes (Some r)) e reads.begins; ends = k.0.ends; told = k.0.told }, k.1, k.2))
      said (No line cause) (inr (inr k)) e = inr (inr (r, record { begins = subst (Begins bytes (Some r)) e reads.begins; ends = k.0.ends; told = k.0.told }, k.1, k.2, k.3, k.4, k.5))

-- ---- the first line ----

nothing_yet : (bytes : List ℕ) → Begins bytes None bytes
nothing_yet bytes = record { texts = []; record_of = refl; whole = refl; few = omega arith }

module _ (bytes : List ℕ) (old : Option (List ℕ)) (known : old ≡ Some bytes) where
  first_wrong : RestHasCause None bytes 1 → IsVerdict bytes (No 1 1)
  first_wrong h = inl (None, bytes, nothing_yet bytes, h, omega arith)

  pub first_cut : IfSome old IsCut → IsVerdict bytes (No 1 1)
  first_cut h = first_wrong (inr (inl (refl, subst (λ o. IfSome o IsCut) known h)))

  pub first_end : IsAtEnd old → IsVerdict bytes (No 1 1)
  first_end h = first_wrong (inr (inr (inr (subst (λ o. IsAtEnd o) known h, inl (refl, refl)))))

  pub first_misplaced : (new : Option (List ℕ)) (text : List ℕ) → IsText text → Consumes old new (text ++ 10 ∷ []) → OpensAs text None → IsVerdict bytes (No 1 1)
  first_misplaced new text is c h =
      let left = left_is old new bytes text known c in
      first_wrong (inl (text, left.0, is, left.2, omega arith, inl (refl, h)))

  pub first_reads : (new : Option (List ℕ)) (text : List ℕ) (a : Audit) → IsText text → Consumes old new (text ++ 10 ∷ []) → OpensAs text (Some a) → Reads bytes a new
  first_reads new text a is c h =
      let left = left_is old new bytes text known c in
      record {
        so_far = h.2;
        rest = left.0;
        audits = h.4;
        begins = longer bytes None text left.0 h.0 h.2 (subst (Begins bytes None) left.2 (nothing_yet bytes)) is h.1 h.3 (omega (arith, h.5));
        known = left.1;
      }

-- nothing was read ahead
pub known_ahead : (held : List ℕ) (left : Option (List ℕ)) (bytes : List ℕ) → held ≡ [] → left ≡ Some bytes → prepend_known held left ≡ Some bytes
known_ahead held left bytes e known = ap (λ (x : List ℕ × Option (List ℕ)). prepend_known x.0 x.1) (λ i. (e i, known i))

pub where_told : (left : Option (List ℕ)) (P : List ℕ → Type 0) → ((bytes : List ℕ) → left ≡ Some bytes → P bytes) → IfSome left P
where_told None P h = tt
where_told (Some bytes) P h = h bytes refl

-- the first line is cut off, or does not come
pub first_none : (bytes : List ℕ) (old new : Option (List ℕ)) (text : List ℕ) (t : Texted) → old ≡ Some bytes → (t ≡ Cut) ⊎ (t ≡ End) → IsNextText old new text t → IsVerdict bytes (No 1 1)
first_none bytes old new text t known (inl e) next = first_cut bytes old known (subst (IsNextText old new text) e next)
first_none bytes old new text t known (inr e) next = first_end bytes old known (subst (IsNextText old new text) e next)
