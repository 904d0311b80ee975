-- Works that were run, or that are as they were since no thread could be started.
use Rattle.std.specs.Prelude.{Result, Ok, Err, OnOk, OnErr, IfOk}

-- what holds in both cases
pub in_both : {T E P Q S : Type 0} (r : Result T E) → OnOk r P → OnErr r Q → (P → S) → (Q → S) → S
in_both (Ok x) ran kept of_run of_kept = of_run ran
in_both (Err e) ran kept of_run of_kept = of_kept kept

-- what follows of an end that there is
pub of_end : {T E : Type 0} {P Q : T → Type 0} (r : Result T E) → IfOk r P → ((x : T) → P x → Q x) → IfOk r Q
of_end (Ok x) is follows = follows x is
of_end (Err e) is follows = tt

pub of_both : {T E : Type 0} {P Q S : T → Type 0} (r : Result T E) → IfOk r P → IfOk r Q → ((x : T) → P x → Q x → S x) → IfOk r S
of_both (Ok x) is is_too follows = follows x is is_too
of_both (Err e) is is_too follows = tt

-- what holds always holds after a refusal
pub onerr_always : {T E P : Type 0} (r : Result T E) → P → OnErr r P
onerr_always (Ok x) p = tt
onerr_always (Err e) p = p
