-- What the system says of an error, in its own words, by the error's number; of an error that is not listed, its number.
use Rattle.std.specs.Prelude.{ℕ, List, cond, eqb}
use Rattle.text.specs.Literal.{ascii}
use Rattle.wording.specs.Line.{line_of}

-- the errors of disks and of what is written to
unfoldable pub other_reason : ℕ → List ℕ
other_reason error =
    cond (eqb error 5) (ascii "Input/output error\n")
    (cond (eqb error 9) (ascii "Bad file descriptor\n")
    (cond (eqb error 27) (ascii "File too large\n")
    (cond (eqb error 28) (ascii "No space left on device\n")
    (cond (eqb error 30) (ascii "Read-only file system\n")
    (line_of (ascii "error") error)))))

-- the errors of names, and those
unfoldable pub reason_of : ℕ → List ℕ
reason_of error =
    cond (eqb error 2) (ascii "No such file or directory\n")
    (cond (eqb error 13) (ascii "Permission denied\n")
    (cond (eqb error 20) (ascii "Not a directory\n")
    (cond (eqb error 21) (ascii "Is a directory\n")
    (cond (eqb error 36) (ascii "File name too long\n")
    (other_reason error)))))
