-- SCOPE, page R: each refusal's number, its words, and the index that comes with it.
--     number_of   the number of a refusal
--     words_of    the words of a refusal: the C header, the README and the Python package say the same
--     index_of    the index of the slot that refusal 2 is about; 0 with all others
use Rattle.std.specs.Prelude.{ℕ}
use Prim.Native.String.{String}
use Rattle.refusals.specs.declared.Refusal.{Refusal}
use Rattle.refusals.specs.declared.Refusal.TheVariants.{TableLength, BrokenSlot, ReceiptTime, OuterBlock, Sender, Report, PayloadBlock, NoFreeSlot, OwnAddress, Recipients, KeyLength, OutputLength}

-- R1 to R12: a refusal has the number of its rule
abbrev pub number_of : Refusal → ℕ
number_of TableLength = 1
number_of (BrokenSlot i) = 2
number_of ReceiptTime = 3
number_of OuterBlock = 4
number_of Sender = 5
number_of Report = 6
number_of PayloadBlock = 7
number_of NoFreeSlot = 8
number_of OwnAddress = 9
number_of Recipients = 10
number_of KeyLength = 11
number_of OutputLength = 12

-- R1 to R12: what each is about, in a few words
abbrev pub words_of : Refusal → String
words_of TableLength = "the table does not have 1 to 256 whole slots"
words_of (BrokenSlot i) = "the table has a damaged slot"
words_of ReceiptTime = "the receipt time lies beyond the year 9999"
words_of OuterBlock = "the header block of the mail cannot be read"
words_of Sender = "no single From field with a single address"
words_of Report = "the mail is a report, of type multipart/report"
words_of PayloadBlock = "gossip is wanted, but the payload block cannot be read"
words_of NoFreeSlot = "too few free slots for the new addresses"
words_of OwnAddress = "the address to write is not a plain one"
words_of Recipients = "the recipients cannot be read, or are not 1 to 100"
words_of KeyLength = "the key to write is empty or over 2,048 octets"
words_of OutputLength = "too little room for the field, or for 11 numbers"

-- R33: an index comes with 2 alone
abbrev pub index_of : Refusal → ℕ
index_of TableLength = 0
index_of (BrokenSlot i) = i
index_of ReceiptTime = 0
index_of OuterBlock = 0
index_of Sender = 0
index_of Report = 0
index_of PayloadBlock = 0
index_of NoFreeSlot = 0
index_of OwnAddress = 0
index_of Recipients = 0
index_of KeyLength = 0
index_of OutputLength = 0
