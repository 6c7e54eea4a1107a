use Rattle.std.proofs.Common.{◌≡◌, ◌-◌, ◌^◌, length, vec_len}
use Rattle.std.specs.Io.KnownBytes.{Consumes}
use Rattle.wasm_console.proofs.stripping.read_all.Given as goal

-- the bytes are what the source gave so far
abbrev pub invariant-pieces : goal.invariant-pieces
invariant-pieces g l =
    let source = g.R.Source in
    record {
      gave : Consumes (source.remaining l.fn.input) (source.remaining l.input) l.bytes.items;
      failed : source.has_failed l.input ≡ source.has_failed l.fn.input;
      buffer : vec_len l.buffer ≡ 65536;
    }

abbrev pub decreases-pieces : goal.decreases-pieces
decreases-pieces g l = 2 ^ 64 - length l.bytes.items
