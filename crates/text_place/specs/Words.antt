-- The names of the kinds of faults.
use Rattle.std.specs.Prelude.{ℕ, List, codes}
use Rattle.text_place.specs.declared.fault.FaultKind.{FaultKind}
use Rattle.text_place.specs.declared.fault.FaultKind.TheVariants.{BadCharacter, OpenComment, OpenText, NotWhole, TooLarge, TypeMismatch, ZeroDivisor, BadSize, NotOnGrid, OutOfRange, FewPoints, BadPoint, NotFlat, NotConvex, NotClosed, Expected, Nested, UnknownName, UnknownFunction, UnknownModule, BadArgument, TooDeep, TooManyTurns, RangeOrder, AssertFailed, NotInProfile, WrongDimension, NotQuarter, Singular, TooManyParts, TooManyPlanes, LongList}

-- the name of a kind, as it is printed
abbrev pub word_of : FaultKind → List ℕ
word_of BadCharacter = codes "BadCharacter"
word_of OpenComment = codes "OpenComment"
word_of OpenText = codes "OpenText"
word_of NotWhole = codes "NotWhole"
word_of TooLarge = codes "TooLarge"
word_of TypeMismatch = codes "TypeMismatch"
word_of ZeroDivisor = codes "ZeroDivisor"
word_of BadSize = codes "BadSize"
word_of NotOnGrid = codes "NotOnGrid"
word_of OutOfRange = codes "OutOfRange"
word_of FewPoints = codes "FewPoints"
word_of BadPoint = codes "BadPoint"
word_of NotFlat = codes "NotFlat"
word_of NotConvex = codes "NotConvex"
word_of NotClosed = codes "NotClosed"
word_of Expected = codes "Expected"
word_of Nested = codes "Nested"
word_of UnknownName = codes "UnknownName"
word_of UnknownFunction = codes "UnknownFunction"
word_of UnknownModule = codes "UnknownModule"
word_of BadArgument = codes "BadArgument"
word_of TooDeep = codes "TooDeep"
word_of TooManyTurns = codes "TooManyTurns"
word_of RangeOrder = codes "RangeOrder"
word_of AssertFailed = codes "AssertFailed"
word_of NotInProfile = codes "NotInProfile"
word_of WrongDimension = codes "WrongDimension"
word_of NotQuarter = codes "NotQuarter"
word_of Singular = codes "Singular"
word_of TooManyParts = codes "TooManyParts"
word_of TooManyPlanes = codes "TooManyPlanes"
word_of LongList = codes "LongList"
