use Rattle.wasm_frames.proofs.AnswerBounds.{asks_for_some, consumes, faults_within}
use Rattle.wasm_frames.proofs.AsksWhereOpen.{asks_where_open}
use Rattle.wasm_frames.proofs.Following.{gives_next}
use Rattle.wasm_frames.proofs.stored.StoredParser.next.Goals as goal

pub returns : goal.returns
returns c =
    let answers = c.next_by_kind.ensures in
    record {
      answers = answers;
      gives = gives_next _ _ _ _ _ answers;
      consumes = consumes _ _ _ _ _ answers;
      asks = asks_for_some _ _ _ _ _ answers;
      waits = asks_where_open _ _ _ _ _ answers;
      faults = faults_within _ _ _ _ _ answers;
    }
