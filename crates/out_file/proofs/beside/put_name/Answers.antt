-- `out_file::beside::put_name` meets its contract: three texts, one behind the other, for which there is room, since a folder has at most 4096 bytes.
use Prim.Native.Nat.{◌≤◌}
use mathlib.Core.Path.{◌≡◌}
use mathlib.Core.List.{◌++◌}
use native.Mathlib.Omega.{arith}
use lib.ListN.{length, length-append, length-take}
use Rattle.text.specs.Literal.{ascii}
use Rattle.wording.proofs.Putting.{reworded, both, whole, counted}
use Rattle.out_file.specs.Beside.{folder_of}
use Rattle.out_file.proofs.Slashes.{folder_short}
use borrow.Author.Rules.{rules}
use Rattle.out_file.proofs.beside.put_name.Goals as goal

pub returns : goal.returns
returns c =
    let s = c in
    let folder = folder_of s.args.path.now in
    let behind = ascii ".lossivurn-" ++ s.args.mark in
    let six : length s.args.mark ≡ 6 = search rules in
    let room : length (folder ++ behind) ≤ length s.args.name.now =
    omega (arith, six, length-append folder behind, folder_short s.args.path.now, s.requires) in
    let put = both (reworded c.folder_of.ensures c.text-behind_folder.ensures) (both c.text-behind_front.ensures c.text.ensures) in
    let n = counted room put in
    record { counts = (omega (arith, n, length-take c.text.result c.text.new.out), n); content = whole room put }
