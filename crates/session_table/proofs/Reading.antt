-- Bytes that are refused, but for memory, are no document.
use Rattle.std.proofs.Common.{inl, inr, ◌≡◌, ℕ, List, Err, None, IsUtf8, refl}
use Rattle.std.proofs.lemmas.Bool.{cases_Bool}
use Rattle.std.proofs.lemmas.Str.{IsUtf8-from_is_utf8}
use Rattle.std.specs.Str.{is_utf8}
use Rattle.toml.specs.Parse.{parse_document}
use Rattle.session_table.specs.declared.fault.TableFault.TheVariants.{NotToml}
use Rattle.session_table.specs.Documents.{document}

pub document_of_none : (bytes : List ℕ) → (IsUtf8 bytes → parse_document bytes ≡ None) → document bytes ≡ Err NotToml
unfolding document
document_of_none bytes none = elim (cases_Bool (is_utf8 bytes)) [
  | inl is ↦ rw (is, none (IsUtf8-from_is_utf8 bytes is)) refl
  | inr not ↦ rw not refl
]
