use Rattle.wasm_parser.proofs.Common.{sym}
use Rattle.wasm_frames.proofs.ForCallers.{asks_for_some, asks_where_open, consumes, faults_within, gives_next}
use Rattle.wasm_parser.proofs.Parsing.{payload_given}
use Rattle.wasm_parser.proofs.parser.Parser.parse.Goals.{in-NeedMoreData, in-Fault}
use Rattle.wasm_parser.proofs.parser.Parser.parse.Goals as goal

pub returns-in-Body-clause-gives : goal.returns-in-Body-clause-gives
returns-in-Body-clause-gives c = rw (sym c.self.view_is) (gives_next _ _ _ _ _
    (payload_given _ _ _ _ _ _ _ c.in-Parsed.ensures.answers c.from.ensures).gives)

pub returns-in-Body-clause-consumes : goal.returns-in-Body-clause-consumes
returns-in-Body-clause-consumes c = consumes _ _ _ _ _ (payload_given _ _ _ _ _ _ _ c.in-Parsed.ensures.answers c.from.ensures).gives

pub returns-in-Body-clause-waits : goal.returns-in-Body-clause-waits
returns-in-Body-clause-waits c = rw (sym c.self.view_is) (asks_where_open _ _ _ _ _
    (payload_given _ _ _ _ _ _ _ c.in-Parsed.ensures.answers c.from.ensures).gives)

pub returns-in-Custom-clause-gives : goal.returns-in-Custom-clause-gives
returns-in-Custom-clause-gives c = rw (sym c.self.view_is) (gives_next _ _ _ _ _
    (payload_given _ _ _ _ _ _ _ c.in-Parsed.ensures.answers c.from-in-Custom.ensures).gives)

pub returns-in-Custom-clause-consumes : goal.returns-in-Custom-clause-consumes
returns-in-Custom-clause-consumes c = consumes _ _ _ _ _
    (payload_given _ _ _ _ _ _ _ c.in-Parsed.ensures.answers c.from-in-Custom.ensures).gives

pub returns-in-Custom-clause-waits : goal.returns-in-Custom-clause-waits
returns-in-Custom-clause-waits c = rw (sym c.self.view_is) (asks_where_open _ _ _ _ _
    (payload_given _ _ _ _ _ _ _ c.in-Parsed.ensures.answers c.from-in-Custom.ensures).gives)

pub returns-in-Unknown-clause-gives : goal.returns-in-Unknown-clause-gives
returns-in-Unknown-clause-gives c = rw (sym c.self.view_is) (gives_next _ _ _ _ _
    (payload_given _ _ _ _ _ _ _ c.in-Parsed.ensures.answers c.from-in-Unknown.ensures).gives)

pub returns-in-Unknown-clause-consumes : goal.returns-in-Unknown-clause-consumes
returns-in-Unknown-clause-consumes c = consumes _ _ _ _ _
    (payload_given _ _ _ _ _ _ _ c.in-Parsed.ensures.answers c.from-in-Unknown.ensures).gives

pub returns-in-Unknown-clause-waits : goal.returns-in-Unknown-clause-waits
returns-in-Unknown-clause-waits c = rw (sym c.self.view_is) (asks_where_open _ _ _ _ _
    (payload_given _ _ _ _ _ _ _ c.in-Parsed.ensures.answers c.from-in-Unknown.ensures).gives)

pub returns-in_default : goal.returns-in_default
returns-in_default c =
    let answer = payload_given _ _ _ _ _ _ _ c.in-Parsed.ensures.answers c.from-in_default.ensures in
    rw (sym c.self.view_is) (record {
      answers = answer;
      gives = gives_next _ _ _ _ _ answer.gives;
      consumes = consumes _ _ _ _ _ answer.gives;
      asks = tt;
      waits = asks_where_open _ _ _ _ _ answer.gives;
      faults = tt;
      unchanged = tt;
    })

pub returns-clause-gives : goal.returns-clause-gives
returns-clause-gives c =
    elim c.match-next_settled.branch [
      | in-NeedMoreData w ↦ rw w.result-is (rw (sym c.self.view_is)
          (gives_next _ _ _ _ _ w.in-NeedMoreData.ensures.answers))
      | in-Fault w ↦ rw w.result-is (rw (sym c.self.view_is) (gives_next _ _ _ _ _ w.in-Fault.ensures.answers))
    ]

pub returns-clause-asks : goal.returns-clause-asks
returns-clause-asks c =
    elim c.match-next_settled.branch [
      | in-NeedMoreData w ↦ rw w.result-is ((asks_for_some _ _ _ _ _ w.in-NeedMoreData.ensures.answers))
      | in-Fault w ↦ rw w.result-is ((asks_for_some _ _ _ _ _ w.in-Fault.ensures.answers))
    ]

pub returns-clause-waits : goal.returns-clause-waits
returns-clause-waits c =
    elim c.match-next_settled.branch [
      | in-NeedMoreData w ↦ rw w.result-is (rw (sym c.self.view_is)
          (asks_where_open _ _ _ _ _ w.in-NeedMoreData.ensures.answers))
      | in-Fault w ↦ rw w.result-is (rw (sym c.self.view_is) (asks_where_open _ _ _ _ _ w.in-Fault.ensures.answers))
    ]

pub returns-clause-faults : goal.returns-clause-faults
returns-clause-faults c =
    elim c.match-next_settled.branch [
      | in-NeedMoreData w ↦ rw w.result-is tt
      | in-Fault w ↦ rw w.result-is (rw (sym c.self.view_is) (faults_within _ _ _ _ _ w.in-Fault.ensures.answers))
    ]
