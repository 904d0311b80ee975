-- The looks of a low worker's stays are looks whose record replays.
use Rattle.std.proofs.Common.{◌≡◌, ℕ, Bool, true, false, List, [], ◌∷◌, Option, Some, None, refl, sym, ap, ◌∙◌, subst}
use Rattle.std.specs.Prelude.{if◌then◌else◌, IfSome}
use Rattle.std.specs.List.{AllByRecursion}
use Rattle.pump_frame.specs.Rows.{IsLawfulRow}
use Rattle.pump_frame.specs.declared.row.SessionRow.{SessionRow}
use Rattle.pump_core.specs.History.{Arrival, Look, Opening}
use Rattle.pump_core.specs.History.{Nothing, Came, Bad as CameBad, Gone as CameGone}
use Rattle.pump_core.specs.Exchanges.{is_gone}
use Rattle.pump_core.specs.Phases.{Phase}
use Rattle.pump_core.specs.Phases.{Idle, Passing, Waiting as Waits, Down}
use Rattle.pump_core.specs.Standing.{State, end_of}
use Rattle.pump_core.specs.Step.{after, after_in, after_idle, takes_in, takes_idle}
use Rattle.relay_threads.specs.declared.low_served.LowWhy.{LowWhy}
use Rattle.relay_threads.specs.declared.low_served.LowWhy.TheVariants.{Gone, Bad, LinkFailed, Device, RecordFailed, Looks, Stopped}
use Rattle.relay_threads.specs.Hearings.{Ending, AtFrame, AtBad, AtNotYet, AtEnded, AtFailed, AtMost, Hearing, IsHearing, EndsSo}
use Rattle.relay_threads.specs.Records.{Made, looks_made, AreMade, is_recorded, recorded, made_of, record_of}
use Rattle.relay_threads.specs.RecordLines.{taken_by, HasLawfulFrame}
use Rattle.relay_threads.specs.Replays.{breaks, is_broken, has_bytes, AreConnected, TakeLawful, IsReadable, ReadsBack}
use Rattle.relay_threads.specs.LowRounds.{Round, with_look, made_after, AreRounds, IsRound, MakesLook, offered, offered_at, GoOn, cause_at, cause_heard, newest_cause}
use Rattle.relay_threads.specs.LowStays.{Stay, Alone, With, GoneAfter, IsStay, stay_after, stayed, AreStays, IsOver, visited, end_at}
use Rattle.relay_threads.proofs.Machine.{led}
use Rattle.relay_threads.proofs.LowServing.{calm_round}
use Rattle.relay_threads.proofs.LowRecord.{made_before_stay, cut_of, gone_round, no_cause}

-- ---- what a round's look was offered ----

round_offers : (row : SessionRow) (o : Opening) (before : List Made) (held : List ℕ) (r : Round) → IsRound row o before held r → (m : Made) → r.made ≡ Some m → offered r.heard ≡ Some m.look.arrival
round_offers row o before held r is m made = by (offered r.heard) refl is.makes where
  by : (x : Option Arrival) → offered r.heard ≡ x → MakesLook r x → offered r.heard ≡ Some m.look.arrival
  by None e none = let no : None ≡ Some m = sym none ∙ made in absurd (cc)
  by (Some a) e (m', made', moment, drawn, arrival) =
      let both : Some m' ≡ Some m = sym made' ∙ made in
      let same : m' ≡ m = cc in
      e ∙ ap (λ z. Some z) (sym arrival ∙ ap (λ (z : Made). z.look.arrival) same)

gone_is : (c : Option LowWhy) (loss : Option Made) → GoneAfter c loss → (m : Made) → loss ≡ Some m → m.look.arrival ≡ CameGone
gone_is None loss after m is = let no : None ≡ Some m = sym after ∙ is in absurd (cc)
gone_is (Some Gone) loss after m is = let no : None ≡ Some m = sym after ∙ is in absurd (cc)
gone_is (Some Bad) loss (m', is', g) m is = let both : Some m' ≡ Some m = sym is' ∙ is in let same : m' ≡ m = cc in ap (λ (z : Made). z.look.arrival) (sym same) ∙ g.0
gone_is (Some LinkFailed) loss (m', is', g) m is = let both : Some m' ≡ Some m = sym is' ∙ is in let same : m' ≡ m = cc in ap (λ (z : Made). z.look.arrival) (sym same) ∙ g.0
gone_is (Some (Device n)) loss after m is = let no : None ≡ Some m = sym after ∙ is in absurd (cc)
gone_is (Some RecordFailed) loss after m is = let no : None ≡ Some m = sym after ∙ is in absurd (cc)
gone_is (Some Looks) loss after m is = let no : None ≡ Some m = sym after ∙ is in absurd (cc)
gone_is (Some Stopped) loss after m is = let no : None ≡ Some m = sym after ∙ is in absurd (cc)

-- ---- each frame that is taken is lawful ----

lawful_at : (held bytes : List ℕ) (e : Ending) (a : Arrival) → EndsSo held bytes e → offered_at e ≡ Some a → HasLawfulFrame a
lawful_at held bytes (AtFrame f) a ends is = let same : Came f ≡ a = cc in subst HasLawfulFrame same ends.0
lawful_at held bytes AtBad a ends is = let same : CameBad ≡ a = cc in subst HasLawfulFrame same tt
lawful_at held bytes AtNotYet a ends is = let same : Nothing ≡ a = cc in subst HasLawfulFrame same tt
lawful_at held bytes AtEnded a ends is = let same : CameGone ≡ a = cc in subst HasLawfulFrame same tt
lawful_at held bytes AtFailed a ends is = absurd (cc)
lawful_at held bytes AtMost a ends is = let same : Nothing ≡ a = cc in subst HasLawfulFrame same tt

heard_lawful : (held : List ℕ) (h : Option Hearing) (a : Arrival) → IfSome h (IsHearing held) → offered h ≡ Some a → HasLawfulFrame a
heard_lawful held None a reads is = let same : Nothing ≡ a = cc in subst HasLawfulFrame same tt
heard_lawful held (Some h) a reads is = lawful_at held h.bytes h.ending a reads.ends is

taken_lawful : (taken : Bool) (a : Arrival) → HasLawfulFrame a → HasLawfulFrame (if taken then a else Nothing)
taken_lawful true a h = h
taken_lawful false a h = tt

with_lawful : (x : Option Made) (before : List Made) → ((m : Made) → x ≡ Some m → HasLawfulFrame m.look.arrival) → TakeLawful before → TakeLawful (with_look x before)
with_lawful None before each lawful = lawful
with_lawful (Some m) before each lawful = (taken_lawful m.taken m.look.arrival (each m refl), lawful)

rounds_lawful : (row : SessionRow) (o : Opening) (before : List Made) (rounds : List Round) → AreRounds row o before rounds → TakeLawful before → TakeLawful (made_after before rounds)
rounds_lawful row o before [] are lawful = lawful
rounds_lawful row o before (r ∷ past) are lawful =
    with_lawful r.made (made_after before past)
    (λ m made. heard_lawful _ r.heard m.look.arrival are.0.reads (round_offers row o (made_after before past) _ r are.0 m made))
    (rounds_lawful row o before past are.2 lawful)

stay_lawful : {L : Type 0} (row : SessionRow) (o : Opening) (before : List Made) (x : Stay L) → IsStay row o before x → TakeLawful before → TakeLawful (stay_after before x)
stay_lawful row o before (Alone m answer) is lawful = lawful
stay_lawful row o before (With m v) is lawful =
    with_lawful v.gone (made_after before v.rounds) (λ x made. subst HasLawfulFrame (sym (gone_is (newest_cause v.rounds) v.gone is.1 x made)) tt) (rounds_lawful row o before v.rounds is.0 lawful)

pub stays_lawful : {L : Type 0} (row : SessionRow) (o : Opening) (stays : List (Stay L)) → AreStays row o [] stays → TakeLawful (stayed [] stays)
stays_lawful row o [] are = tt
stays_lawful row o (x ∷ past) are = stay_lawful row o (stayed [] past) x are.0 (stays_lawful row o past are.2)

-- ---- after bad bytes nothing more is taken but the loss ----

abbrev is_bad : Arrival → Bool
is_bad Nothing = false
is_bad (Came f) = false
is_bad CameBad = true
is_bad CameGone = false

calm_offers_at : (e : Ending) (a : Arrival) → cause_at e ≡ None → offered_at e ≡ Some a → is_bad a ≡ false
calm_offers_at (AtFrame f) a calm is = let same : Came f ≡ a = cc in ap is_bad (sym same)
calm_offers_at AtBad a calm is = absurd (cc)
calm_offers_at AtNotYet a calm is = let same : Nothing ≡ a = cc in ap is_bad (sym same)
calm_offers_at AtEnded a calm is = absurd (cc)
calm_offers_at AtFailed a calm is = absurd (cc)
calm_offers_at AtMost a calm is = let same : Nothing ≡ a = cc in ap is_bad (sym same)

calm_offers : (h : Option Hearing) (a : Arrival) → cause_heard h ≡ None → offered h ≡ Some a → is_bad a ≡ false
calm_offers None a calm is = let same : Nothing ≡ a = cc in ap is_bad (sym same)
calm_offers (Some h) a calm is = calm_offers_at h.ending a calm is

-- what is not bad bytes leaves an unbroken connection so
still : (taken : Bool) (a : Arrival) → is_bad a ≡ false → breaks (if taken then a else Nothing) false ≡ false
still false a fine = refl
still true Nothing fine = refl
still true (Came f) fine = refl
still true CameBad fine = absurd (cc)
still true CameGone fine = refl

with_unbroken : (x : Option Made) (before : List Made) → ((m : Made) → x ≡ Some m → is_bad m.look.arrival ≡ false) → is_broken before ≡ false → is_broken (with_look x before) ≡ false
with_unbroken None before each fine = fine
with_unbroken (Some m) before each fine = ap (breaks (taken_by m)) fine ∙ still m.taken m.look.arrival (each m refl)

calm_unbroken : (row : SessionRow) (o : Opening) (before : List Made) (rounds : List Round) → AreRounds row o before rounds → GoOn rounds → is_broken before ≡ false → is_broken (made_after before rounds) ≡ false
calm_unbroken row o before [] are on fine = fine
calm_unbroken row o before (r ∷ past) are on fine =
    with_unbroken r.made (made_after before past)
    (λ m made. calm_offers r.heard m.look.arrival (calm_round r on.0).1.1 (round_offers row o (made_after before past) _ r are.0 m made))
    (calm_unbroken row o before past are.2 on.1 fine)

with_connected : (x : Option Made) (before : List Made) → ((m : Made) → x ≡ Some m → is_broken before ≡ true → has_bytes (taken_by m) ≡ false) → AreConnected before → AreConnected (with_look x before)
with_connected None before each conn = conn
with_connected (Some m) before each conn = (each m refl, conn)

rounds_connected : (row : SessionRow) (o : Opening) (before : List Made) (rounds : List Round) → AreRounds row o before rounds → is_broken before ≡ false → AreConnected before → AreConnected (made_after before rounds)
rounds_connected row o before [] are fine conn = conn
rounds_connected row o before (r ∷ past) are fine conn =
    with_connected r.made (made_after before past) (λ m made e. let no : true ≡ false = sym e ∙ calm_unbroken row o before past are.2 are.1 fine in absurd (cc))
    (rounds_connected row o before past are.2 fine conn)

gone_bytes : (taken : Bool) (a : Arrival) → a ≡ CameGone → has_bytes (if taken then a else Nothing) ≡ false
gone_bytes false a is = refl
gone_bytes true a is = ap has_bytes is

stay_connected : {L : Type 0} (row : SessionRow) (o : Opening) (before : List Made) (x : Stay L) → IsStay row o before x → is_broken before ≡ false → AreConnected before → AreConnected (stay_after before x)
stay_connected row o before (Alone m answer) is fine conn = conn
stay_connected row o before (With m v) is fine conn =
    with_connected v.gone (made_after before v.rounds) (λ x made e. gone_bytes x.taken x.look.arrival (gone_is (newest_cause v.rounds) v.gone is.1 x made)) (rounds_connected row o before v.rounds is.0 fine conn)

-- ---- a look with Gone right behind bad bytes takes the loss ----

idle_of : (x : Look) (p : Phase) → x.arrival ≡ CameBad → takes_in x p ≡ true → p ≡ Idle
idle_of x Down bad t = absurd (cc)
idle_of x (Waits n at) bad t = let no : is_gone x.arrival ≡ false = ap is_gone bad in let yes : false ≡ true = sym no ∙ t in absurd (cc)
idle_of x (Passing owed) bad t = let no : is_gone x.arrival ≡ false = ap is_gone bad in let yes : false ≡ true = sym no ∙ t in absurd (cc)
idle_of x Idle bad t = refl

bad_stays : (row : SessionRow) (s : State) (x : Look) (p : Phase) → s.phase ≡ Idle → p ≡ Idle → x.arrival ≡ CameBad → (after_in row s x p).phase ≡ Idle
bad_stays row s x p idle is bad = ap (λ (z : Phase). (after_in row s x z).phase) is ∙ ap (λ (z : Arrival). (after_idle row s x z).phase) bad ∙ idle

taken_parts : (taken : Bool) (a : Arrival) → (if taken then a else Nothing) ≡ CameBad → (taken ≡ true) × (a ≡ CameBad)
taken_parts true a e = (refl, e)
taken_parts false a e = absurd (cc)

gone_taken : (row : SessionRow) (o : Opening) (before : List Made) (x m : Made) → AreMade row o (m ∷ x ∷ before) → taken_by x ≡ CameBad → m.look.arrival ≡ CameGone → m.taken ≡ true
gone_taken row o before x m are bad gone =
    let parts = taken_parts x.taken x.look.arrival bad in
    let c = cut_of row o before are.1.1 in
    let first = led row o (looks_made before) x.look c.0 are.1.0.parts c.1 are.1.0.cut in
    let second = led row o (looks_made (x ∷ before)) m.look are.1.0.parts are.0.parts are.1.0.cut are.0.cut in
    let s = end_of row o c.0 in
    let idle : s.phase ≡ Idle = idle_of x.look s.phase parts.1 (sym first.newest.taken ∙ sym are.1.0.taken ∙ parts.0) in
    let then_idle : (end_of row o are.1.0.parts).phase ≡ Idle = ap (λ (z : State). z.phase) first.state ∙ bad_stays row s x.look s.phase idle idle parts.1 in
    are.0.taken ∙ second.newest.taken ∙ ap (takes_in m.look) then_idle ∙ ap takes_idle gone

broken_bad : (a : Arrival) → breaks a false ≡ true → a ≡ CameBad
broken_bad Nothing e = absurd (cc)
broken_bad (Came f) e = absurd (cc)
broken_bad CameBad e = refl
broken_bad CameGone e = absurd (cc)

gone_breaks : (taken was : Bool) (a : Arrival) → a ≡ CameGone → (was ≡ true → taken ≡ true) → breaks (if taken then a else Nothing) was ≡ false
gone_breaks true was a is takes = ap (λ (z : Arrival). breaks z was) is
gone_breaks false false a is takes = refl
gone_breaks false true a is takes = let no : false ≡ true = takes refl in absurd (cc)

-- behind one look more than an unbroken connection's
gone_after_one : (row : SessionRow) (o : Opening) (before : List Made) (x : Option Made) (m : Made) → AreMade row o (m ∷ with_look x before) → is_broken before ≡ false → m.look.arrival ≡ CameGone → is_broken (m ∷ with_look x before) ≡ false
gone_after_one row o before None m are fine gone =
    gone_breaks m.taken (is_broken before) m.look.arrival gone (λ e. let no : false ≡ true = sym fine ∙ e in absurd (cc))
gone_after_one row o before (Some x) m are fine gone =
    gone_breaks m.taken (is_broken (x ∷ before)) m.look.arrival gone
    (λ e. gone_taken row o before x m are (broken_bad (taken_by x) (ap (breaks (taken_by x)) (sym fine) ∙ e)) gone)

with_gone : (row : SessionRow) (o : Opening) (before : List Made) (x gone : Option Made) (m : Made) → gone ≡ Some m → AreMade row o (with_look gone (with_look x before)) → is_broken before ≡ false → m.look.arrival ≡ CameGone → is_broken (with_look gone (with_look x before)) ≡ false
with_gone row o before x gone m is are fine arrival =
    let same : with_look gone (with_look x before) ≡ m ∷ with_look x before = ap (λ z. with_look z (with_look x before)) is in
    ap is_broken same ∙ gone_after_one row o before x m (subst (AreMade row o) same are) fine arrival

-- a connection that is over leaves none that is broken
module _ (row : SessionRow) (o : Opening) (before : List Made) (fine : is_broken before ≡ false) where
  left_unbroken : (rounds : List Round) (loss : Option Made) (k : Bool) (why : LowWhy) → AreRounds row o before rounds → AreMade row o (visited before rounds loss) → newest_cause rounds ≡ Some why → GoneAfter (Some why) loss → end_at (Some why) k ≡ None
      → is_broken (visited before rounds loss) ≡ false
  left_unbroken [] loss k why are made e after none = absurd (cc)
  left_unbroken (r ∷ past) loss k Gone are made e after none =
      let b = made_after before past in
      let calm = calm_unbroken row o before past are.2 are.1 fine in
      let g = gone_round row o b _ r are.0 e in
      ap (λ z. is_broken (with_look z (with_look r.made b))) after
      ∙ with_unbroken r.made b (λ m made. let both : Some g.0 ≡ Some m = sym g.1 ∙ made in let same : g.0 ≡ m = cc in ap is_bad (ap (λ (z : Made). z.look.arrival) (sym same) ∙ g.2)) calm
  left_unbroken (r ∷ past) loss k Bad are made e after none =
      with_gone row o (made_after before past) r.made loss after.0 after.1 made (calm_unbroken row o before past are.2 are.1 fine) after.2.0
  left_unbroken (r ∷ past) loss k LinkFailed are made e after none =
      with_gone row o (made_after before past) r.made loss after.0 after.1 made (calm_unbroken row o before past are.2 are.1 fine) after.2.0
  left_unbroken (r ∷ past) loss k (Device n) are made e after none = absurd (cc)
  left_unbroken (r ∷ past) loss k RecordFailed are made e after none = absurd (cc)
  left_unbroken (r ∷ past) loss k Looks are made e after none = absurd (no_cause (r ∷ past) Looks refl e)
  left_unbroken (r ∷ past) loss k Stopped are made e after none = absurd (no_cause (r ∷ past) Stopped refl e)

  over_unbroken : {L : Type 0} (x : Stay L) → IsStay row o before x → AreMade row o (stay_after before x) → IsOver x → is_broken (stay_after before x) ≡ false
  over_unbroken (Alone m answer) is made over = fine
  over_unbroken (With m v) is made over =
      let why = over.0.0 in
      let e = over.0.1 in
      left_unbroken v.rounds v.gone v.is_kept why is.0 made e (subst (λ (c : Option LowWhy). GoneAfter c v.gone) e is.1) (ap (λ c. end_at c v.is_kept) (sym e) ∙ over.1)

stays_unbroken : {L : Type 0} (row : SessionRow) (o : Opening) (stays : List (Stay L)) → AreStays row o [] stays → AreMade row o (stayed [] stays) → AllByRecursion IsOver stays → is_broken (stayed [] stays) ≡ false
stays_unbroken row o [] are made over = refl
stays_unbroken row o (x ∷ past) are made over =
    over_unbroken row o (stayed [] past) (stays_unbroken row o past are.2 (made_before_stay row o (stayed [] past) x made) over.1) x are.0 made over.0

pub stays_connected : {L : Type 0} (row : SessionRow) (o : Opening) (stays : List (Stay L)) → AreStays row o [] stays → AreMade row o (stayed [] stays) → AreConnected (stayed [] stays)
stays_connected row o [] are made = tt
stays_connected row o (x ∷ past) are made =
    let was = made_before_stay row o (stayed [] past) x made in
    stay_connected row o (stayed [] past) x are.0 (stays_unbroken row o past are.2 was are.1) (stays_connected row o past are.2 was)

-- ---- the lines of the record read back ----

more_by : (row : SessionRow) (b : Bool) (n : ℕ) (m : Made) (before : List Made) → (b ≡ true → IsReadable row m) → AllByRecursion (IsReadable row) (record_of before)
    → AllByRecursion (IsReadable row) (made_of (if b then record { number = n; made = m } ∷ recorded before else recorded before))
more_by row true n m before reads all = (reads refl, all)
more_by row false n m before reads all = all

with_readable : (row : SessionRow) (x : Option Made) (before : List Made) → IfSome x (ReadsBack row before) → AllByRecursion (IsReadable row) (record_of before) → AllByRecursion (IsReadable row) (record_of (with_look x before))
with_readable row None before reads all = all
with_readable row (Some m) before reads all = more_by row (is_recorded before m) _ m before reads all

rounds_readable : (row : SessionRow) (o : Opening) (before : List Made) (rounds : List Round) → IsLawfulRow row → AreRounds row o before rounds → AllByRecursion (IsReadable row) (record_of before) → AllByRecursion (IsReadable row) (record_of (made_after before rounds))
rounds_readable row o before [] lawful are all = all
rounds_readable row o before (r ∷ past) lawful are all = with_readable row r.made (made_after before past) (are.0.readable lawful) (rounds_readable row o before past lawful are.2 all)

stay_readable : {L : Type 0} (row : SessionRow) (o : Opening) (before : List Made) (x : Stay L) → IsLawfulRow row → IsStay row o before x → AllByRecursion (IsReadable row) (record_of before) → AllByRecursion (IsReadable row) (record_of (stay_after before x))
stay_readable row o before (Alone m answer) lawful is all = all
stay_readable row o before (With m v) lawful is all = with_readable row v.gone (made_after before v.rounds) (is.2 lawful) (rounds_readable row o before v.rounds lawful is.0 all)

pub stays_readable : {L : Type 0} (row : SessionRow) (o : Opening) (stays : List (Stay L)) → IsLawfulRow row → AreStays row o [] stays → AllByRecursion (IsReadable row) (record_of (stayed [] stays))
stays_readable row o [] lawful are = tt
stays_readable row o (x ∷ past) lawful are = stay_readable row o (stayed [] past) x lawful are.0 (stays_readable row o past lawful are.2)
