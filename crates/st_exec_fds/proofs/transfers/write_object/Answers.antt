use Rattle.std.proofs.Common.{◌≡◌, length, ap, ◌∙◌, arith}
use Rattle.std.proofs.lemmas.List.FromFn.{length-map-range_with_len}
use Rattle.st_memory.specs.Memory.{byte_in}
use Rattle.st_model.specs.Memory.{bytes_from}
use Rattle.st_exec_fds.specs.Transfers.{bytes_moved}
use Rattle.st_request.proofs.Refused.{never_refused}
use Rattle.st_exec_fds.proofs.Fits.{write_fits}
use Rattle.st_exec_fds.proofs.transfers.write_object.Goals as goal

pub unrefused-requires : goal.unrefused-requires
unrefused-requires c =
    let bytes : c.bytes_moved.result.now ≡ bytes_from (byte_in c.args.spaces.now c.args.buffer.space) c.args.buffer.at c.args.buffer.count =
    c.bytes_moved.ensures ∙ ap bytes_moved c.in_ok-outcome.ensures.changes ∙ c.in-Ok.ensures.ok in
    let count : length c.bytes_moved.result.now ≡ c.args.buffer.count = ap length bytes ∙ length-map-range_with_len (byte_in c.args.spaces.now c.args.buffer.space) c.args.buffer.at c.args.buffer.count in
    never_refused _ c.write.result (write_fits c.args.start c.bytes_moved.result.now (omega arith)) c.write.ensures.refused
