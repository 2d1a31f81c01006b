-- Each function is read by its word.
use Rattle.std.proofs.Common.{refl}
use Rattle.rule_tree.specs.declared.function.Function.TheVariants.{StateCount, CellPos, If, Ifu, Abs, Sign, Sqrt, Trunc, Fractional, Round, Min, Max, Remainder, Even, Odd, IsInt, IsUndefined}
use Rattle.rule_tree.specs.FunctionWords.{EachFunctionIsRead}

pub each_is_read : EachFunctionIsRead
each_is_read StateCount = refl
each_is_read CellPos = refl
each_is_read If = refl
each_is_read Ifu = refl
each_is_read Abs = refl
each_is_read Sign = refl
each_is_read Sqrt = refl
each_is_read Trunc = refl
each_is_read Fractional = refl
each_is_read Round = refl
each_is_read Min = refl
each_is_read Max = refl
each_is_read Remainder = refl
each_is_read Even = refl
each_is_read Odd = refl
each_is_read IsInt = refl
each_is_read IsUndefined = refl
