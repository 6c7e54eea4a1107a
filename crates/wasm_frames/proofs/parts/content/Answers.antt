use Rattle.wasm_frames.proofs.parts.content.Goals as goal

pub returns-in-Custom : goal.returns-in-Custom
returns-in-Custom g c = rw c.in-Custom.is (λ context same. c.custom.ensures context c.args.end)

pub returns-in-Index : goal.returns-in-Index
returns-in-Index g c = rw c.in-Index.is (λ context same. c.start.ensures context c.args.end)

pub returns-in-DataCount : goal.returns-in-DataCount
returns-in-DataCount g c = rw c.in-DataCount.is (λ context same. c.data_count.ensures context c.args.end)

pub returns-in-Unknown : goal.returns-in-Unknown
returns-in-Unknown g c = rw c.in-Unknown.is (λ context same. c.unknown.ensures context c.args.end)
