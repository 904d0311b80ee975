use Rattle.std.proofs.Common.{◌≤◌, ◌∙◌, sym, length, drop, replicate}
use Rattle.pump_frame.specs.Padded.{padded_new, padded_whole, padded_prefix}
use Rattle.file_messages.specs.FileNames.{IsFileName}
use Rattle.file_messages.proofs.Names.{short_name}
use Rattle.file_messages.proofs.file_name.FileName.parse.Goals as goal

pub invariant_of-result : goal.invariant_of-result
invariant_of-result c =
    let bytes = c.args.bytes.now in
    let name : IsFileName bytes = sym c.is_file_name.ensures.value ∙ c.if-not-is_file_name.false in
    let short : length bytes ≤ 128 = short_name bytes name in
    let copied = c.copy_from_slice.ensures.after in (
      short,
      padded_whole 128 bytes _ short copied,
      padded_new 128 bytes _ short copied,
      rw (padded_prefix bytes c.copy_from_slice.new.self (drop (length bytes) (replicate 128 0)) copied) name,
    )
