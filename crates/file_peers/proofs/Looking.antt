-- Looks of a rest, one after another.
use Rattle.std.proofs.Common.{◌≡◌, ◌≤◌, ◌<◌, ◌⊎◌, inl, inr, ℕ, zero, suc, ◌+◌, ◌-◌, Bool, true, false, List, [], ◌∷◌, ◌++◌, length, refl, sym, ap, ◌∙◌, subst, append-nil, append_assoc, arith, length-append}
use Rattle.pump_frame.specs.Counts.{Rose}
use Rattle.pump_frame.specs.Readings.{Reading, Within}
use Rattle.pump_frame.specs.Spellings.{IsPartial}
use Rattle.pump_frame.specs.Streams.{Feeds}
use Rattle.pump_frame.proofs.Streams.{nothing_partial}
use Rattle.pump_frame.specs.declared.frame.Frame.{Frame}
use Rattle.pump_frame.specs.declared.reader.Fed.{Fed}
use Rattle.pump_frame.specs.declared.reader.Fed.TheVariants.{More, Whole, Bad}
use Rattle.pump_link.specs.Tells.{Draws}
use Rattle.pump_link.specs.declared.link.Looked.{Looked}
use Rattle.pump_link.specs.declared.link.Looked.TheVariants.{Byte, NotYet, Ended, Failed}
use Rattle.pump_link.proofs.Grown.{Draws-nil, Draws-then}
use Rattle.peers.specs.Looks.{AreCalm, Hears, HearsJust, IsOver, bytes_in}
use Rattle.peers.proofs.Awaited.{all_snoc}
use Rattle.peers.proofs.Hearing.{Reads, bytes_append, calm_append, hears_none, hears_more, just_join, over_more, heard, bad, ended, failed, used}
use Rattle.file_peers.specs.Dropping.{AreQuiet, IsLate, IsRest}

-- a frame had begun when the looks of a rest were made, and goes on; or it has ended
abbrev pub IsOpen : Bool → List Looked → List Looked → Type 0
IsOpen begun heard now = (begun ≡ true) × (first : List Looked) × (rest : List Looked) × (now ≡ first ++ rest) × (bytes_in first ≡ [] → ⊥) × (length (heard ++ first) ≡ 500)

abbrev pub HasEnded : List Looked → List Frame → List Looked → Type 0
HasEnded heard passed now = IsLate heard passed × (now ≡ [])

-- the looks of a rest so far: those that heard whole frames, and those since
pub record Resting (reader : Reading) (begun : Bool) (some : ℕ) (g g1 : List Looked → Type 0) (most left : ℕ) : Type 0 where
  pub heard : List Looked
  pub passed : List Frame
  pub now : List Looked
  pub just : HearsJust heard passed
  pub held : reader ≡ Within (bytes_in now)
  pub part : IsPartial (bytes_in now)
  pub calm : AreCalm now
  pub quiet : begun ≡ false → AreQuiet now
  pub count : most ≡ left + length (heard ++ now)
  pub gave : Draws g g1 (heard ++ now)
  pub opens : begun ≡ true → bytes_in now ≡ [] → ⊥
  pub long : (length (heard ++ now) + some ≡ 500) ⊎ ((some ≡ 0) × (IsOpen begun heard now ⊎ HasEnded heard passed now))

pub resting_none : (reader : Reading) (g : List Looked → Type 0) (most : ℕ) → reader ≡ Within [] → Resting reader false 500 g g most most
resting_none reader g most is = record {
  heard = [];
  passed = [];
  now = [];
  just = hears_none;
  held = is;
  part = nothing_partial;
  calm = tt;
  quiet = λ no. tt;
  count = omega arith;
  gave = Draws-nil g;
  opens = λ yes. cc;
  long = inl refl;
}

-- the looks since the last whole frame
abbrev none_told : List Looked → Type 0
none_told log = Unit {0}

abbrev reads_of : (reader : Reading) (looks : List Looked) → reader ≡ Within (bytes_in looks) → IsPartial (bytes_in looks) → AreCalm looks → Reads reader none_told none_told (length looks) 0
reads_of reader looks held part calm = record { looks = looks; count = omega arith; calm = calm; now_held = held; part = part; gave = record { told = λ rest told. tt } }

fed_within : (reader next : Reading) (held : List ℕ) (byte : ℕ) (answer : Fed) → reader ≡ Within held → Feeds reader byte answer next → Feeds (Within held) byte answer next
fed_within reader next held byte answer is f = subst (λ (w : Reading). Feeds w byte answer next) is f

zero_or : (n : ℕ) → (n ≡ 0) ⊎ (0 < n)
zero_or zero = inl refl
zero_or (suc n) = inr (omega arith)

quiet_more : (looks : List Looked) → AreQuiet looks → AreQuiet (looks ++ NotYet ∷ [])
quiet_more looks quiet = all_snoc (λ (x : Looked). x ≡ NotYet) looks NotYet quiet refl

module _ (reader : Reading) (begun : Bool) (some : ℕ) (g g1 : List Looked → Type 0) (most left : ℕ) (was : Resting reader begun some g g1 most left) where
  pub used_up : Hears (was.heard ++ was.now) was.passed
  used_up = hears_more was.heard was.now was.passed was.just (used reader none_told none_told none_told (length was.now) 0 (reads_of reader was.now was.held was.part was.calm))

  pub rested : some ≡ 0 → begun ≡ false → IsRest (was.heard ++ was.now) was.passed
  rested none between = record {
    heard = was.heard;
    quiet = was.now;
    all = refl;
    just = was.just;
    none = was.quiet between;
    long = elim was.long [
      | inl e ↦ inl (omega (arith, e, none))
      | inr more ↦ elim (more.1) [
        | inl open_is ↦ absurd (let both = sym open_is.0 ∙ between in cc)
        | inr ended_is ↦ inr (subst (λ (l : List Looked). IsLate l was.passed) (sym (ap (λ (l : List Looked). was.heard ++ l) ended_is.1 ∙ append-nil was.heard)) ended_is.0, ended_is.1)
      ]
    ];
  }

  pub all_gave : (x : Looked) (g2 : List Looked → Type 0) → Draws g1 g2 (x ∷ []) → Draws g g2 (was.heard ++ (was.now ++ x ∷ []))
  all_gave x g2 gave = subst (Draws g g2) (append_assoc was.heard was.now (x ∷ [])) (Draws-then g g1 g2 (was.heard ++ was.now) (x ∷ []) was.gave gave)

  length_more : (x : Looked) → length (was.heard ++ (was.now ++ x ∷ [])) ≡ length (was.heard ++ was.now) + 1
  length_more x = omega (arith, length-append was.heard was.now, length-append was.heard (was.now ++ x ∷ []), length-append was.now (x ∷ []))

  pub all_count : (x : Looked) (left' : ℕ) → left ≡ left' + 1 → most ≡ left' + length (was.heard ++ (was.now ++ x ∷ []))
  all_count x left' fewer = omega (arith, was.count, fewer, length_more x)

  over_all : (x : Looked) (before mid now : ℕ) → before ≤ mid → IsOver (was.now ++ x ∷ []) [] mid now → IsOver (was.heard ++ (was.now ++ x ∷ [])) was.passed before now
  over_all x before mid now le over = over_more was.heard (was.now ++ x ∷ []) was.passed before mid now le was.just over

  pub looked_bad : (b : ℕ) (next : Reading) (at before mid now : ℕ) → before ≤ mid → Feeds reader b (Bad at) next → IsOver (was.heard ++ (was.now ++ Byte b ∷ [])) was.passed before now
  looked_bad b next at before mid now le feeds = over_all (Byte b) before mid now le (bad reader none_told none_told none_told (length was.now) 0 (reads_of reader was.now was.held was.part was.calm) b at next mid now feeds)

  pub looked_ended : (before mid now : ℕ) → before ≤ mid → IsOver (was.heard ++ (was.now ++ Ended ∷ [])) was.passed before now
  looked_ended before mid now le = over_all Ended before mid now le (ended reader none_told none_told none_told (length was.now) 0 (reads_of reader was.now was.held was.part was.calm) mid now)

  pub looked_failed : (before mid now : ℕ) → before ≤ mid → Rose mid now → IsOver (was.heard ++ (was.now ++ Failed ∷ [])) was.passed before now
  looked_failed before mid now le rose = over_all Failed before mid now le (failed reader none_told none_told none_told (length was.now) 0 (reads_of reader was.now was.held was.part was.calm) mid now rose)

  module _ (x : Looked) (left' some' : ℕ) (g2 : List Looked → Type 0) (fewer : left ≡ left' + 1) (some_is : some' ≡ some - 1) (open_is : some ≡ 0 → begun ≡ true) (gave : Draws g1 g2 (x ∷ [])) where
    abbrev all : List Looked
    all = was.heard ++ (was.now ++ x ∷ [])

    all_length : length all ≡ length (was.heard ++ was.now) + 1
    all_length = length_more x

    -- the looks are not all made, or a frame had begun when they were
    all_long : (length all + some' ≡ 500) ⊎ ((some ≡ 0) × (first : List Looked) × (rest : List Looked) × (was.now ++ x ∷ [] ≡ first ++ rest) × (bytes_in first ≡ [] → ⊥) × (length (was.heard ++ first) ≡ 500))
    all_long = elim was.long [
      | inl e ↦ elim (zero_or some) [
        | inl z ↦ inr (z, was.now, x ∷ [], refl, was.opens (open_is z), omega (arith, e, z))
        | inr more ↦ inl (omega (arith, e, some_is, more, all_length))
      ]
      | inr more ↦ elim (more.1) [
        | inl open_now ↦ inr (more.0, open_now.1, open_now.2 ++ x ∷ [], ap (λ (l : List Looked). l ++ x ∷ []) open_now.3 ∙ append_assoc open_now.1 open_now.2 (x ∷ []), open_now.4, open_now.5)
        | inr ended_is ↦ absurd (was.opens (open_is more.0) (ap bytes_in ended_is.1))
      ]
    ]

    still_open : (begun' : Bool) → (some ≡ 0 → begun' ≡ true) → (length all + some' ≡ 500) ⊎ ((some' ≡ 0) × (IsOpen begun' was.heard (was.now ++ x ∷ []) ⊎ HasEnded was.heard was.passed (was.now ++ x ∷ [])))
    still_open begun' still = elim all_long [
      | inl e ↦ inl e
      | inr late ↦ inr (omega (arith, some_is, late.0), inl (still late.0, late.1, late.2, late.3, late.4, late.5))
    ]

    pub looked_quiet : x ≡ NotYet → Resting reader begun some' g g2 most left'
    looked_quiet is =
        let same : bytes_in (was.now ++ x ∷ []) ≡ bytes_in was.now = ap (λ (y : Looked). bytes_in (was.now ++ y ∷ [])) is ∙ bytes_append was.now (NotYet ∷ []) ∙ append-nil (bytes_in was.now) in
        record {
          heard = was.heard;
          passed = was.passed;
          now = was.now ++ x ∷ [];
          just = was.just;
          held = was.held ∙ ap Within (sym same);
          part = subst IsPartial (sym same) was.part;
          calm = calm_append was.now (x ∷ []) was.calm (subst (λ (y : Looked). AreCalm (y ∷ [])) (sym is) tt);
          quiet = λ no. subst (λ (y : Looked). AreQuiet (was.now ++ y ∷ [])) (sym is) (quiet_more was.now (was.quiet no));
          count = all_count x left' fewer;
          gave = all_gave x g2 gave;
          opens = λ yes none. was.opens yes (sym same ∙ none);
          long = still_open begun open_is;
        }

    module _ (b : ℕ) (is : x ≡ Byte b) (next : Reading) where
      with_byte : bytes_in (was.now ++ x ∷ []) ≡ bytes_in was.now ++ b ∷ []
      with_byte = ap (λ (y : Looked). bytes_in (was.now ++ y ∷ [])) is ∙ bytes_append was.now (Byte b ∷ [])

      pub looked_byte : Feeds reader b More next → Resting next true some' g g2 most left'
      looked_byte f =
          let h = fed_within reader next (bytes_in was.now) b More was.held f in
          record {
            heard = was.heard;
            passed = was.passed;
            now = was.now ++ x ∷ [];
            just = was.just;
            held = h.1 ∙ ap Within (sym with_byte);
            part = subst IsPartial (sym with_byte) h.0;
            calm = calm_append was.now (x ∷ []) was.calm (subst (λ (y : Looked). AreCalm (y ∷ [])) (sym is) tt);
            quiet = λ no. cc;
            count = all_count x left' fewer;
            gave = all_gave x g2 gave;
            opens = λ yes none. let size = ap length (sym with_byte ∙ none) in absurd (omega (arith, size, length-append (bytes_in was.now) (b ∷ [])));
            long = still_open true (λ z. refl);
          }

      pub looked_frame : (f : Frame) → Feeds reader b (Whole f) next → Resting next false some' g g2 most left'
      looked_frame f feeds =
          let h = fed_within reader next (bytes_in was.now) b (Whole f) was.held feeds in
          let last : HearsJust (was.now ++ x ∷ []) (f ∷ []) = subst (λ (y : Looked). HearsJust (was.now ++ y ∷ []) (f ∷ [])) (sym is) (heard reader none_told none_told none_told (length was.now) 0 (reads_of reader was.now was.held was.part was.calm) b f next feeds) in
          let none : (was.heard ++ (was.now ++ x ∷ [])) ++ [] ≡ was.heard ++ (was.now ++ x ∷ []) = append-nil all in
          record {
            heard = was.heard ++ (was.now ++ x ∷ []);
            passed = was.passed ++ f ∷ [];
            now = [];
            just = just_join was.heard (was.now ++ x ∷ []) was.passed (f ∷ []) was.just last;
            held = h.2;
            part = nothing_partial;
            calm = tt;
            quiet = λ no. tt;
            count = all_count x left' fewer ∙ ap (λ (l : List Looked). left' + length l) (sym none);
            gave = subst (Draws g g2) (sym none) (all_gave x g2 gave);
            opens = λ yes. cc;
            long = elim all_long [
              | inl e ↦ inl (omega (arith, e, ap length none))
              | inr late ↦ inr (
                omega (arith, some_is, late.0),
                inr (record { before = was.heard; begun = late.1; rest = late.2; earlier = was.passed; last = f; all = ap (λ (l : List Looked). was.heard ++ l) late.3; just = was.just; first = late.5; open_is = late.4; passed_is = refl }, refl),
              )
            ];
          }
