-- The windows that items hold, and the bytes of a vector.
use Rattle.std.specs.Prelude.{ℕ, List}
use Rattle.wasm_base.specs.Window.{Window}
use Rattle.wasm_items.specs.declared.code.FunctionBody.{FunctionBody}
use Rattle.wasm_items.specs.declared.init.ConstExpr.{ConstExpr}
use Rattle.wasm_items.specs.declared.init.V128.{V128}

-- | a body, or a constant expression, is a window; the bytes of a vector [`expression_window`, `bytes_of_vector`]
--   <Code Section; Expressions; Vector Instructions>
-- the window of a body
abbrev pub body_window : FunctionBody → Window
body_window body = body.reader

-- the window of a constant expression
abbrev pub expression_window : ConstExpr → Window
expression_window expression = expression.reader

-- the bytes of a vector
abbrev pub bytes_of_vector : V128 → List ℕ
bytes_of_vector vector = vector.0
