-- What the words ask for, and which command ends so.
use Rattle.std.proofs.Common.{◌≡◌, ◌⊎◌, ℕ, true, List, Result, Ok, Err, map, String, Global, string_bytes, sym, ◌∙◌, subst}
use Rattle.command_line.specs.Commands.{AreWordsOf}
use Rattle.command_line.proofs.Asked.{not_command, read_words}
use Rattle.command_line.specs.declared.command.Command.{Command}
use Rattle.command_line.specs.declared.command.Command.TheVariants.{DropFiles, CollectFiles}
use Rattle.command_line.specs.declared.command.WordsFault.{WordsFault}
use Rattle.command_line.specs.declared.command.WordsFault.TheVariants.{NoCommand, Memory}
use Rattle.transfer.specs.Commands.{is_transfer}

-- the words are those of no command
abbrev pub AreNone : List (List ℕ) → Type 0
AreNone words = (c : Command) → AreWordsOf words c → ⊥

pub asks_none : (words slice : List (String Global)) → slice ≡ words
    → ((c : Command) → AreWordsOf (map string_bytes slice) c → (let r : Result Command WordsFault = Err NoCommand in (r ≡ Ok c) ⊎ (r ≡ Err Memory))) → AreNone (map string_bytes words)
asks_none words slice value command c h = not_command c (command c (read_words words slice c value h))

-- .. or of another command
pub not_transfer : (b : Command) → ((table : List ℕ) (session looks : ℕ) (folder : List ℕ) → b ≡ DropFiles table session looks folder → ⊥)
    → ((table : List ℕ) (session looks : ℕ) (folder : List ℕ) → b ≡ CollectFiles table session looks folder → ⊥)
    → (d : Command) → is_transfer d ≡ true → b ≡ d → ⊥
not_transfer b drop collect (DropFiles table session looks folder) is e = drop table session looks folder e
not_transfer b drop collect (CollectFiles table session looks folder) is e = collect table session looks folder e
not_transfer b drop collect d is e = cc

drop_table : (t u v w : List ℕ) (n m k l : ℕ) → DropFiles t n k v ≡ DropFiles u m l w → t ≡ u
drop_table t u v w n m k l e = cc

drop_session : (t u v w : List ℕ) (n m k l : ℕ) → DropFiles t n k v ≡ DropFiles u m l w → n ≡ m
drop_session t u v w n m k l e = cc

drop_looks : (t u v w : List ℕ) (n m k l : ℕ) → DropFiles t n k v ≡ DropFiles u m l w → k ≡ l
drop_looks t u v w n m k l e = cc

drop_folder : (t u v w : List ℕ) (n m k l : ℕ) → DropFiles t n k v ≡ DropFiles u m l w → v ≡ w
drop_folder t u v w n m k l e = cc

collect_table : (t u v w : List ℕ) (n m k l : ℕ) → CollectFiles t n k v ≡ CollectFiles u m l w → t ≡ u
collect_table t u v w n m k l e = cc

collect_session : (t u v w : List ℕ) (n m k l : ℕ) → CollectFiles t n k v ≡ CollectFiles u m l w → n ≡ m
collect_session t u v w n m k l e = cc

collect_looks : (t u v w : List ℕ) (n m k l : ℕ) → CollectFiles t n k v ≡ CollectFiles u m l w → k ≡ l
collect_looks t u v w n m k l e = cc

collect_folder : (t u v w : List ℕ) (n m k l : ℕ) → CollectFiles t n k v ≡ CollectFiles u m l w → v ≡ w
collect_folder t u v w n m k l e = cc

-- two commands of these words are one, so what holds of the one's values holds of the other's
module _ (End : List ℕ → ℕ → ℕ → List ℕ → Type 0) (t u v w : List ℕ) (n m k l : ℕ) (c : Command) (ends : End t n k v) where
  pub drop_asked : c ≡ DropFiles t n k v → c ≡ DropFiles u m l w → End u m l w
  drop_asked one other =
      let same = sym one ∙ other in
      subst (λ (x : List ℕ × ℕ × ℕ × List ℕ). End x.0 x.1 x.2 x.3)
      (λ i. (drop_table t u v w n m k l same i, drop_session t u v w n m k l same i, drop_looks t u v w n m k l same i, drop_folder t u v w n m k l same i)) ends

  pub collect_asked : c ≡ CollectFiles t n k v → c ≡ CollectFiles u m l w → End u m l w
  collect_asked one other =
      let same = sym one ∙ other in
      subst (λ (x : List ℕ × ℕ × ℕ × List ℕ). End x.0 x.1 x.2 x.3)
      (λ i. (collect_table t u v w n m k l same i, collect_session t u v w n m k l same i, collect_looks t u v w n m k l same i, collect_folder t u v w n m k l same i)) ends

pub never_both : (t u v w : List ℕ) (n m k l : ℕ) → DropFiles t n k v ≡ CollectFiles u m l w → ⊥
never_both t u v w n m k l e = cc
