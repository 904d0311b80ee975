use Rattle.std.proofs.Common.{◌≡◌, ◌≤◌, ◌∙◌, sym, true, length, drop, replicate}
use Rattle.pump_frame.specs.Padded.{padded_new, padded_whole, padded_prefix}
use Rattle.command_line.specs.TableNames.{is_table_name}
use Rattle.command_line.proofs.Texts.{short_name}
use Rattle.command_line.proofs.table_name.TableName.from_text.Goals as goal

pub invariant_of-result : goal.invariant_of-result
invariant_of-result c =
    let bytes = c.as_bytes-bytes.result.now in
    let name : is_table_name bytes ≡ true = sym c.is_table_name.ensures ∙ c.if-not-is_table_name.false in
    let short : length bytes ≤ 64 = short_name bytes name in
    let copied = c.copy_from_slice.ensures.after in (
      short,
      padded_whole 64 bytes _ short copied,
      padded_new 64 bytes _ short copied,
      rw (padded_prefix bytes c.copy_from_slice.new.self (drop (length bytes) (replicate 64 0)) copied) name,
    )
