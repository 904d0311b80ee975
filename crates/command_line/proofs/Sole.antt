-- Words are one command at most.
use Rattle.std.proofs.Common.{◌≡◌, ◌⊎◌, inl, inr, ℕ, ◌<◌, ◌^◌, false, List, [], ◌∷◌, get_or, codes, decimal, Result, Ok, Err, IfOk, sym, ap, ap₂, ◌∙◌, refl, arith}
use Rattle.std.proofs.lemmas.Bool.{false≢true}
use Rattle.std.proofs.lemmas.Slice.Eq.{bytes_eq-Decides}
use Rattle.std.proofs.lemmas.Fmt.{decimal_injective}
use Rattle.std.specs.Str.{bytes_eq}
use Rattle.command_line.specs.Commands.{IsCommand, IsLooking, IsCarrying, AreWordsOf, words_of}
use Rattle.command_line.proofs.Commas.{one_list}
use Rattle.command_line.specs.declared.command.Command.{Command}
use Rattle.command_line.specs.declared.command.Command.TheVariants.{Replay, Format, Show, Exercise, Race, Serve, Receive, Send, Append, Migrate, Wrap, Unwrap, Messages, Status, Audit, Compare, Chain, DropFiles, CollectFiles}
use Rattle.command_line.specs.declared.command.WordsFault.{WordsFault}
use Rattle.command_line.specs.declared.command.WordsFault.TheVariants.{NoCommand, Memory}

pub differ : (name a b : List ℕ) → bytes_eq a b ≡ false → name ≡ a → name ≡ b → ⊥
differ name a b apart h k = false≢true (sym apart ∙ (bytes_eq-Decides a b).1 (sym h ∙ k))

apart : (a b : List ℕ) (rest more : List (List ℕ)) → bytes_eq a b ≡ false → a ∷ rest ≡ b ∷ more → ⊥
apart a b rest more different e = differ a a b different refl (ap (λ l. get_or l 0 []) e)

same_number : (m n : ℕ) → m < 2 ^ 64 → n < 2 ^ 64 → decimal m ≡ decimal n → m ≡ n
same_number m n h k e = decimal_injective m n h k e

abbrev pub name_of : Command → List ℕ
name_of Replay = codes "replay"
name_of (Format t n) = codes "format"
name_of (Show t n) = codes "show"
name_of (Exercise m n) = codes "exercise"
name_of (Race m n ts) = codes "race"
name_of (Serve t n k) = codes "serve"
name_of (Receive t n k) = codes "receive"
name_of (Send t n k) = codes "send"
name_of (Append t n k) = codes "append"
name_of (DropFiles t n k u) = codes "drop"
name_of (CollectFiles t n k u) = codes "collect"
name_of (Migrate t n u m) = codes "migrate"
name_of (Wrap t n) = codes "wrap"
name_of (Unwrap t n) = codes "unwrap"
name_of (Messages t n k) = codes "messages"
name_of (Status t n) = codes "status"
name_of Audit = codes "audit"
name_of Compare = codes "compare"
name_of Chain = codes "chain"

same_session : (make : List ℕ → ℕ → Command) (t u : List ℕ) (n m : ℕ) → n < 2 ^ 32 → m < 2 ^ 32 → (name : List ℕ) → name ∷ t ∷ decimal n ∷ [] ≡ name ∷ u ∷ decimal m ∷ [] → make t n ≡ make u m
same_session make t u n m h k name e = ap₂ make (ap (λ l. get_or l 1 []) e) (same_number n m (omega (arith, h)) (omega (arith, k)) (ap (λ l. get_or l 2 []) e))

same_looks : (make : List ℕ → ℕ → ℕ → Command) (t u : List ℕ) (n m i j : ℕ) → IsLooking t n i → IsLooking u m j → (name : List ℕ)
    → name ∷ t ∷ decimal n ∷ decimal i ∷ [] ≡ name ∷ u ∷ decimal m ∷ decimal j ∷ [] → make t n i ≡ make u m j
same_looks make t u n m i j h k name e =
    let tables : t ≡ u = ap (λ l. get_or l 1 []) e in
    let sessions = same_number n m (omega (arith, h.1)) (omega (arith, k.1)) (ap (λ l. get_or l 2 []) e) in
    let looks = same_number i j (omega (arith, h.3)) (omega (arith, k.3)) (ap (λ l. get_or l 3 []) e) in
    λ p. make (tables p) (sessions p) (looks p)

same_folder : (make : List ℕ → ℕ → ℕ → List ℕ → Command) (t u v w : List ℕ) (n m i j : ℕ) → IsCarrying t n i v → IsCarrying u m j w → (name : List ℕ)
    → name ∷ t ∷ decimal n ∷ decimal i ∷ v ∷ [] ≡ name ∷ u ∷ decimal m ∷ decimal j ∷ w ∷ [] → make t n i v ≡ make u m j w
same_folder make t u v w n m i j h k name e =
    let tables : t ≡ u = ap (λ l. get_or l 1 []) e in
    let sessions = same_number n m (omega (arith, h.0.1)) (omega (arith, k.0.1)) (ap (λ l. get_or l 2 []) e) in
    let looks = same_number i j (omega (arith, h.0.3)) (omega (arith, k.0.3)) (ap (λ l. get_or l 3 []) e) in
    let folders : v ≡ w = ap (λ l. get_or l 4 []) e in
    λ p. make (tables p) (sessions p) (looks p) (folders p)

one_command : (c d : Command) → IsCommand c → IsCommand d → words_of c ≡ words_of d → c ≡ d
one_command Replay Replay h k e = refl
one_command Replay d h k e = absurd (apart (codes "replay") (name_of d) _ _ refl e)
one_command (Format t n) (Format u m) h k e = same_session Format t u n m h.1 k.1 (codes "format") e
one_command (Format t n) d h k e = absurd (apart (codes "format") (name_of d) _ _ refl e)
one_command (Show t n) (Show u m) h k e = same_session Show t u n m h.1 k.1 (codes "show") e
one_command (Show t n) d h k e = absurd (apart (codes "show") (name_of d) _ _ refl e)
one_command (Exercise r n) (Exercise s m) h k e =
    ap₂ Exercise (same_number r s (omega (arith, h.0)) (omega (arith, k.0)) (ap (λ l. get_or l 1 []) e))
    (same_number n m (omega (arith, h.2)) (omega (arith, k.2)) (ap (λ l. get_or l 2 []) e))
one_command (Exercise r n) d h k e = absurd (apart (codes "exercise") (name_of d) _ _ refl e)
one_command (Race r n ts) (Race s m us) h k e =
    let seeds = same_number r s (omega (arith, h.0)) (omega (arith, k.0)) (ap (λ l. get_or l 1 []) e) in
    let counts = same_number n m (omega (arith, h.2)) (omega (arith, k.2)) (ap (λ l. get_or l 2 []) e) in
    let times = one_list ts.items us.items h.3 k.3 (ap (λ l. get_or l 3 []) e) in
    λ i. Race (seeds i) (counts i) (record { items = times i })
one_command (Race r n ts) d h k e = absurd (apart (codes "race") (name_of d) _ _ refl e)
one_command (Serve t n i) (Serve u m j) h k e = same_looks Serve t u n m i j h k (codes "serve") e
one_command (Serve t n i) d h k e = absurd (apart (codes "serve") (name_of d) _ _ refl e)
one_command (Receive t n i) (Receive u m j) h k e = same_looks Receive t u n m i j h k (codes "receive") e
one_command (Receive t n i) d h k e = absurd (apart (codes "receive") (name_of d) _ _ refl e)
one_command (Send t n i) (Send u m j) h k e = same_looks Send t u n m i j h k (codes "send") e
one_command (Send t n i) d h k e = absurd (apart (codes "send") (name_of d) _ _ refl e)
one_command (Append t n i) (Append u m j) h k e = same_looks Append t u n m i j h k (codes "append") e
one_command (Append t n i) d h k e = absurd (apart (codes "append") (name_of d) _ _ refl e)
one_command (DropFiles t n i v) (DropFiles u m j w) h k e = same_folder DropFiles t u v w n m i j h k (codes "drop") e
one_command (DropFiles t n i v) d h k e = absurd (apart (codes "drop") (name_of d) _ _ refl e)
one_command (CollectFiles t n i v) (CollectFiles u m j w) h k e = same_folder CollectFiles t u v w n m i j h k (codes "collect") e
one_command (CollectFiles t n i v) d h k e = absurd (apart (codes "collect") (name_of d) _ _ refl e)
one_command (Migrate t n v i) (Migrate u m w j) h k e =
    let tables : t ≡ u = ap (λ l. get_or l 1 []) e in
    let sessions = same_number n m (omega (arith, h.0.1)) (omega (arith, k.0.1)) (ap (λ l. get_or l 2 []) e) in
    let new_tables : v ≡ w = ap (λ l. get_or l 3 []) e in
    let new_sessions = same_number i j (omega (arith, h.1.1)) (omega (arith, k.1.1)) (ap (λ l. get_or l 4 []) e) in
    λ p. Migrate (tables p) (sessions p) (new_tables p) (new_sessions p)
one_command (Migrate t n v i) d h k e = absurd (apart (codes "migrate") (name_of d) _ _ refl e)
one_command (Wrap t n) (Wrap u m) h k e = same_session Wrap t u n m h.1 k.1 (codes "wrap") e
one_command (Wrap t n) d h k e = absurd (apart (codes "wrap") (name_of d) _ _ refl e)
one_command (Unwrap t n) (Unwrap u m) h k e = same_session Unwrap t u n m h.1 k.1 (codes "unwrap") e
one_command (Unwrap t n) d h k e = absurd (apart (codes "unwrap") (name_of d) _ _ refl e)
one_command (Messages t n i) (Messages u m j) h k e =
    let tables : t ≡ u = ap (λ l. get_or l 1 []) e in
    let sessions = same_number n m (omega (arith, h.0.1)) (omega (arith, k.0.1)) (ap (λ l. get_or l 2 []) e) in
    let numbers = same_number i j (omega (arith, h.1)) (omega (arith, k.1)) (ap (λ l. get_or l 3 []) e) in
    λ p. Messages (tables p) (sessions p) (numbers p)
one_command (Messages t n i) d h k e = absurd (apart (codes "messages") (name_of d) _ _ refl e)
one_command (Status t n) (Status u m) h k e = same_session Status t u n m h.1 k.1 (codes "status") e
one_command (Status t n) d h k e = absurd (apart (codes "status") (name_of d) _ _ refl e)
one_command Audit Audit h k e = refl
one_command Audit d h k e = absurd (apart (codes "audit") (name_of d) _ _ refl e)
one_command Compare Compare h k e = refl
one_command Compare d h k e = absurd (apart (codes "compare") (name_of d) _ _ refl e)
one_command Chain Chain h k e = refl
one_command Chain d h k e = absurd (apart (codes "chain") (name_of d) _ _ refl e)

pub words_of_one : (words : List (List ℕ)) (c d : Command) → AreWordsOf words c → AreWordsOf words d → c ≡ d
words_of_one words c d h k = one_command c d h.0 k.0 (sym h.1 ∙ k.1)

-- an answer is the command that the words are, where they are one
pub answered : (r : Result Command WordsFault) (words : List (List ℕ)) → IfOk r (AreWordsOf words)
    → (r ≡ Err NoCommand → (c : Command) → AreWordsOf words c → ⊥) → (c : Command) → AreWordsOf words c → (r ≡ Ok c) ⊎ (r ≡ Err Memory)
answered (Ok d) words found refused c h = inl (ap Ok (words_of_one words d c found h))
answered (Err NoCommand) words found refused c h = absurd (refused refl c h)
answered (Err Memory) words found refused c h = inr refl
