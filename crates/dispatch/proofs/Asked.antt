-- What the words ask for.
use Rattle.std.proofs.Common.{rules, ◌≡◌, ◌⊎◌, ℕ, Bool, true, false, nat_eq, List, Result, Err, Ok, inl, inr, map, String, Global, string_bytes, refl, sym, ap, ◌∙◌, subst}
use Rattle.arrayvec.specs.ArrayVec.{ArrayVec}
use Rattle.command_line.specs.Commands.{AreWordsOf}
use Rattle.command_line.proofs.Asked.{Asks, not_command, read_words}
use Rattle.command_line.specs.declared.command.Command.{Command}
use Rattle.command_line.specs.declared.command.Command.TheVariants.{Race, Serve, Receive, Send, Append, DropFiles, CollectFiles}
use Rattle.command_line.specs.declared.command.WordsFault.{WordsFault}
use Rattle.command_line.specs.declared.command.WordsFault.TheVariants.{NoCommand, Memory}
use Rattle.dispatch.specs.Commands.{IsNoneThat, is_live, is_batch}

-- the words are those of no command
pub asks_none : (holds : Command → Bool) (words slice : List (String Global)) → slice ≡ words
    → ((c : Command) → AreWordsOf (map string_bytes slice) c → (let r : Result Command WordsFault = Err NoCommand in (r ≡ Ok c) ⊎ (r ≡ Err Memory))) → IsNoneThat holds (map string_bytes words)
asks_none holds words slice value command c held h = not_command c (command c (read_words words slice c value h))

-- .. or those of one of which this does not hold
pub asks_other : (holds : Command → Bool) (words : List (List ℕ)) (call : Command) → holds call ≡ false → Asks words call → IsNoneThat holds words
asks_other holds words call other a c held h =
    let e : holds call ≡ holds c = ap holds (a.only c h) in
    cc

-- what holds of the command that the words are holds of each that they are
pub of_asked : (P : Command → Type 0) (holds : Command → Bool) (words : List (List ℕ)) (call : Command) → Asks words call → P call → (c : Command) → holds c ≡ true → AreWordsOf words c → P c
of_asked P holds words call a of_call c held h = subst P (a.only c h) of_call

-- a command of `live`, or one over folders
abbrev pub IsElsewhere : Command → Type 0
IsElsewhere b = ((seed count : ℕ) × (times : ArrayVec ℕ) × (b ≡ Race seed count times))
    ⊎ (((table : List ℕ) × (session looks : ℕ) × (b ≡ Serve table session looks))
    ⊎ (((table : List ℕ) × (session looks : ℕ) × (b ≡ Receive table session looks))
    ⊎ (((table : List ℕ) × (session looks : ℕ) × (b ≡ Send table session looks))
    ⊎ (((table : List ℕ) × (session looks : ℕ) × (b ≡ Append table session looks))
    ⊎ (((table : List ℕ) × (session looks : ℕ) × (folder : List ℕ) × (b ≡ DropFiles table session looks folder))
    ⊎ ((table : List ℕ) × (session looks : ℕ) × (folder : List ℕ) × (b ≡ CollectFiles table session looks folder)))))))

pub elsewhere_one : (b : Command) → IsElsewhere b → is_batch b ≡ false
elsewhere_one b (inl (seed, count, times, e)) = ap is_batch e
elsewhere_one b (inr (inl (table, session, looks, e))) = ap is_batch e
elsewhere_one b (inr (inr (inl (table, session, looks, e)))) = ap is_batch e
elsewhere_one b (inr (inr (inr (inl (table, session, looks, e))))) = ap is_batch e
elsewhere_one b (inr (inr (inr (inr (inl (table, session, looks, e)))))) = ap is_batch e
elsewhere_one b (inr (inr (inr (inr (inr (inl (table, session, looks, folder, e))))))) = ap is_batch e
elsewhere_one b (inr (inr (inr (inr (inr (inr (table, session, looks, folder, e))))))) = ap is_batch e

-- a command that is none of `live`
pub not_live : (b : Command) → ((seed count : ℕ) (times : ArrayVec ℕ) → b ≡ Race seed count times → ⊥)
    → ((table : List ℕ) (session looks : ℕ) → b ≡ Serve table session looks → ⊥) → ((table : List ℕ) (session looks : ℕ) → b ≡ Receive table session looks → ⊥)
    → ((table : List ℕ) (session looks : ℕ) → b ≡ Send table session looks → ⊥) → ((table : List ℕ) (session looks : ℕ) → b ≡ Append table session looks → ⊥)
    → is_live b ≡ false
not_live (Race seed count times) race serve receive send append = absurd (race seed count times refl)
not_live (Serve table session looks) race serve receive send append = absurd (serve table session looks refl)
not_live (Receive table session looks) race serve receive send append = absurd (receive table session looks refl)
not_live (Send table session looks) race serve receive send append = absurd (send table session looks refl)
not_live (Append table session looks) race serve receive send append = absurd (append table session looks refl)
not_live b race serve receive send append = refl

-- ---- statuses ----

eq_self : (n : ℕ) → nat_eq n n ≡ true
eq_self n = search rules

-- a number is not two different ones
pub is_not : (n k s : ℕ) → nat_eq n k ≡ false → s ≡ n → s ≡ k → ⊥
is_not n k s differ one other =
    let same : nat_eq n n ≡ false = subst (λ m. nat_eq n m ≡ false) (sym (sym one ∙ other)) differ in
    cc (eq_self n)
