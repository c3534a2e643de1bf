-- The numbers of the rules of validation.
use Rattle.std.specs.Prelude.{ℕ}
use Rattle.body_typing.specs.declared.rule.Rule.{Rule}
use Rattle.body_typing.specs.declared.rule.Rule.TheVariants.{TypeIndex, SeveralResults, SecondOne, SizeLimits, GlobalInit, ExportName, ExportIndex, StartFunction, ElementSegment, DataSegment, LocalIndex, GlobalIndex, CallIndex, LabelIndex, NothingThere, Alignment, Operand, EndOperands, EmptyElse, TableLabels}

abbrev pub number_of : Rule → ℕ
number_of TypeIndex = 1
number_of SeveralResults = 2
number_of SecondOne = 3
number_of SizeLimits = 4
number_of GlobalInit = 5
number_of ExportName = 6
number_of ExportIndex = 7
number_of StartFunction = 8
number_of ElementSegment = 9
number_of DataSegment = 10
number_of LocalIndex = 11
number_of GlobalIndex = 12
number_of CallIndex = 13
number_of LabelIndex = 14
number_of NothingThere = 15
number_of Alignment = 16
number_of Operand = 17
number_of EndOperands = 18
number_of EmptyElse = 19
number_of TableLabels = 20
