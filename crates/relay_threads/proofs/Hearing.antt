-- One reading of a link, byte by byte.
use Rattle.std.proofs.Common.{◌≡◌, ℕ, ◌+◌, ◌<◌, ◌≤◌, List, [], ◌∷◌, ◌++◌, length, map, refl, sym, ap, ◌∙◌, subst, append_assoc, append-nil, arith, length-append}
use Rattle.std.proofs.lemmas.List.{map-append}
use Rattle.pump_frame.specs.declared.frame.Frame.{Frame}
use Rattle.pump_frame.specs.declared.reader.Fed.{Fed}
use Rattle.pump_frame.specs.declared.reader.Fed.TheVariants.{More, Whole, Bad}
use Rattle.pump_frame.specs.Frames.{IsLawful}
use Rattle.pump_frame.specs.Spellings.{BeginsSpelling, IsPartial}
use Rattle.pump_frame.specs.Readings.{Reading, Within, HasBegun, is_stopped}
use Rattle.pump_frame.specs.Streams.{Feeds}
use Rattle.pump_link.specs.Tells.{Draws}
use Rattle.pump_link.specs.declared.link.Looked.{Looked}
use Rattle.pump_link.specs.declared.link.Looked.TheVariants.{Byte, NotYet, Ended, Failed}
use Rattle.pump_link.proofs.Grown.{Draws-nil, Draws-then}
use Rattle.relay_threads.specs.declared.hear.HeardHead.{HeardHead}
use Rattle.relay_threads.specs.declared.hear.HeardHead.TheVariants as heads
use Rattle.relay_threads.specs.Heards.{Heard, Nothing as HeardNothing, Frame as HeardFrame, Bad as HeardBad, Ended as HeardEnded, Failed as HeardFailed, heard_with}
use Rattle.relay_threads.specs.Hearings.{AtFrame, AtBad, AtNotYet, AtEnded, AtFailed, AtMost, Hears, held_in}

-- the bytes that were read behind the held ones, and what the link gives before and now
pub record Reads (held : List ℕ) (now : Reading) (p q : List Looked → Type 0) (n : ℕ) : Type 0 where
  pub bytes : List ℕ
  pub count : length bytes ≡ n
  pub now_held : now ≡ Within (held ++ bytes)
  pub part : IsPartial (held ++ bytes)
  pub gave : Draws p q (map Byte bytes)

pub none_read : (old : Reading) (p : List Looked → Type 0) → old ≡ Within (held_in old) → HasBegun old → Reads (held_in old) old p p 0
none_read old p is begun = record {
  bytes = [];
  count = refl;
  now_held = is ∙ ap Within (sym (append-nil (held_in old)));
  part = subst IsPartial (sym (append-nil (held_in old))) (subst HasBegun is begun);
  gave = Draws-nil p;
}

module _ (held : List ℕ) (now : Reading) (p q r : List Looked → Type 0) (n : ℕ) (was : Reads held now p q n) where
  one_look : (x : Looked) → Draws q r (x ∷ []) → Draws p r (map Byte was.bytes ++ x ∷ [])
  one_look x g = Draws-then p q r _ _ was.gave g

  byte_look : (b : ℕ) → Draws q r (Byte b ∷ []) → Draws p r (map Byte (was.bytes ++ b ∷ []))
  byte_look b g = subst (Draws p r) (sym (map-append Byte was.bytes (b ∷ []))) (one_look (Byte b) g)

  whole_look : (b : ℕ) → Draws q r (Byte b ∷ []) → Draws p r (map Byte (was.bytes ++ b ∷ []) ++ [])
  whole_look b g = subst (Draws p r) (sym (append-nil (map Byte (was.bytes ++ b ∷ [])))) (byte_look b g)

  longer : (b : ℕ) → length (was.bytes ++ b ∷ []) ≡ n + 1
  longer b = length-append was.bytes (b ∷ []) ∙ ap (λ k. k + 1) was.count

  fed : (b : ℕ) (answer : Fed) (next : Reading) → Feeds now b answer next → Feeds (Within (held ++ was.bytes)) b answer next
  fed b answer next f = subst (λ (w : Reading). Feeds w b answer next) was.now_held f

  pub read_more : (b m : ℕ) (next : Reading) → m ≡ n + 1 → Feeds now b More next → Draws q r (Byte b ∷ []) → Reads held next p r m
  read_more b m next is f g =
      let h = fed b More next f in
      record {
        bytes = was.bytes ++ b ∷ [];
        count = longer b ∙ sym is;
        now_held = h.1 ∙ ap Within (append_assoc held was.bytes (b ∷ []));
        part = subst IsPartial (append_assoc held was.bytes (b ∷ [])) h.0;
        gave = byte_look b g;
      }

  pub hears_frame : (b : ℕ) (f : Frame) (next : Reading) → n < 1042 → Feeds now b (Whole f) next → Draws q r (Byte b ∷ []) → Hears held next p r (HeardFrame f)
  hears_frame b f next lt step g =
      let h = fed b (Whole f) next step in (
        record { bytes = was.bytes ++ b ∷ []; ending = AtFrame f },
        record { bound = omega (arith, longer b); ends = (h.0, h.1 ∙ append_assoc held was.bytes (b ∷ [])) },
        refl,
        h.2,
        whole_look b g,
      )

  pub lawful_frame : (b : ℕ) (f : Frame) (next : Reading) → Feeds now b (Whole f) next → IsLawful f
  lawful_frame b f next step = (fed b (Whole f) next step).0

  pub hears_bad : (b at : ℕ) (next : Reading) → n < 1042 → Feeds now b (Bad at) next → Draws q r (Byte b ∷ []) → Hears held next p r HeardBad
  hears_bad b at next lt step g =
      let h = fed b (Bad at) next step in (
        record { bytes = was.bytes ++ b ∷ []; ending = AtBad },
        record {
          bound = omega (arith, longer b);
          ends = (was.bytes, b, refl, was.part, λ x. h.0 (subst BeginsSpelling (sym (append_assoc held was.bytes (b ∷ []))) x));
        },
        refl,
        ap is_stopped h.2,
        whole_look b g,
      )

  bound : n ≤ 1042 → length was.bytes ≤ 1042
  bound le = omega (arith, was.count)

  pub hears_nothing : n ≤ 1042 → Draws q r (NotYet ∷ []) → Hears held now p r HeardNothing
  hears_nothing le g = (record { bytes = was.bytes; ending = AtNotYet }, record { bound = bound le; ends = was.part }, refl, was.now_held, one_look NotYet g)

  pub hears_end : n ≤ 1042 → Draws q r (Ended ∷ []) → Hears held now p r HeardEnded
  hears_end le g = (record { bytes = was.bytes; ending = AtEnded }, record { bound = bound le; ends = was.part }, refl, was.now_held, one_look Ended g)

  pub hears_failure : n ≤ 1042 → Draws q r (Failed ∷ []) → Hears held now p r HeardFailed
  hears_failure le g = (record { bytes = was.bytes; ending = AtFailed }, record { bound = bound le; ends = was.part }, refl, was.now_held, one_look Failed g)

pub hears_most : (held : List ℕ) (now : Reading) (p q : List Looked → Type 0) (n : ℕ) → Reads held now p q n → n ≡ 1042 → Hears held now p q HeardNothing
hears_most held now p q n was e = (
  record { bytes = was.bytes; ending = AtMost },
  record { bound = omega (arith, was.count); ends = (was.part, was.count ∙ e) },
  refl,
  was.now_held,
  subst (Draws p q) (sym (append-nil (map Byte was.bytes))) was.gave,
)

-- ---- what is heard where the link did not fail ----

pub frame_no_failure : heads.Frame ≡ heads.Failed → ⊥
frame_no_failure e = cc

pub bad_no_failure : heads.Bad ≡ heads.Failed → ⊥
bad_no_failure e = cc

pub nothing_no_failure : heads.Nothing ≡ heads.Failed → ⊥
nothing_no_failure e = cc

pub end_no_failure : heads.Ended ≡ heads.Failed → ⊥
end_no_failure e = cc

-- .. and where it did
pub head_failed : (f : Frame) (head : HeardHead) → heard_with f head ≡ HeardFailed → head ≡ heads.Failed
head_failed f heads.Nothing e = absurd (cc)
head_failed f heads.Frame e = absurd (cc)
head_failed f heads.Bad e = absurd (cc)
head_failed f heads.Ended e = absurd (cc)
head_failed f heads.Failed e = refl
