use Rattle.std.proofs.Common.{Some, None, append-nil, false, sym, refl}
use Rattle.wasm_show.specs.Seen.{an_item}
use Rattle.wasm_show.proofs.Seeing.{noted_item, offset_more, stopped_is}
use Rattle.wasm_show.proofs.offsets.OffsetsWalker.take_item.Goals as goal

pub returns-in-Some : goal.returns-in-Some
returns-in-Some g c = record {
  goes = λ e since done d. rw c.in-Some.is (offset_more done (an_item c.args._level (Some c.in-Some.offset) c.args._number) since
      c.args.self.now (record { noted = c.push.new.self; has_stopped = c.is_err-self.result }) d
      (λ n. (e, noted_item _ _ _ _ _ c.is_err-self.ensures.value c.push.ensures.items n)));
  stays = λ is. absurd (stopped_is c.args.self.now c.if-self.false is);
}

pub returns-in_default : goal.returns-in_default
returns-in_default g c = record {
  goes = λ e since done d. rw c.in_default.is (offset_more done (an_item c.args._level None c.args._number) since c.args.self.now
      c.args.self.now d (λ n. (n, sym (append-nil _))));
  stays = λ is. refl;
}
