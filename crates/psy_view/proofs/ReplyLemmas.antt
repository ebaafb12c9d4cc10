-- What replies to a request, by the files that were read.
use Rattle.std.proofs.Common.{◌≡◌, refl, ℕ, false, List, [], ◌∷◌, Option, Result, Ok, Err, IfOk}
use Rattle.psy_door.specs.Files.{Files}
use Rattle.psy_view.specs.Asked.{File, Request, by_psyc, file_of, files_of}
use Rattle.psy_view.specs.Fetching.{ComeTo, first, behind, failed, long, IsTextOf, IsUnread}
use Rattle.psy_view.specs.Outcome.{Replies, missed, stopped_at, viewed_all}
use Rattle.psy_view.specs.Reading.{request_of_one, request_of_two, most_of_one, most_of_other}
use Rattle.psy_view.specs.Views.{ViewOf}
use Rattle.psy_base.specs.declared.memory.Memory.{Memory}
use Rattle.psy_view.specs.declared.view.View.{View}
use Rattle.psy_view.specs.declared.asked.One.{One}
use Rattle.psy_view.specs.declared.asked.One.TheVariants as one
use Rattle.psy_view.specs.declared.asked.Two.{Two}
use Rattle.psy_view.specs.declared.asked.Two.TheVariants as two

-- A file that couldn't be read, or that is too long
stopped : {files : Option Files} {b a : ℕ} {request : Request} (file : File) (status : ℕ) (text : List ℕ) → ComeTo files (files_of request) file
    → file.in_pieces ≡ false → IsUnread files b a file status text → Replies files b a request status text
stopped file _ _ comes whole (failed rose) = missed file comes rose
stopped file _ _ comes whole (long is) = stopped_at file comes whole is

-- ---- one file

pub viewed_one : (files : Option Files) (b a : ℕ) (name : List ℕ) (view : One) (bytes : List ℕ) (status : ℕ) (text : List ℕ)
    → IsTextOf files (file_of name (most_of_one view)) bytes → ViewOf (request_of_one name view) (bytes ∷ []) status text
    → Replies files b a (request_of_one name view) status text
viewed_one files b a name (one.Where words) bytes status text is views = viewed_all (bytes ∷ []) status text (is, tt) views
viewed_one files b a name one.Dot bytes status text is views = viewed_all (bytes ∷ []) status text (is, tt) views
viewed_one files b a name one.Flow bytes status text is views = viewed_all (bytes ∷ []) status text (is, tt) views
viewed_one files b a name one.List bytes status text is views = viewed_all (bytes ∷ []) status text (is, tt) views
viewed_one files b a name (one.Report until) bytes status text is views = viewed_all (bytes ∷ []) status text (is, tt) views

pub unread_one : (files : Option Files) (b a : ℕ) (name : List ℕ) (view : One) (status : ℕ) (text : List ℕ)
    → IsUnread files b a (file_of name (most_of_one view)) status text → Replies files b a (request_of_one name view) status text
unread_one files b a name (one.Where words) status text is = stopped _ status text (first _ []) refl is
unread_one files b a name one.Dot status text is = stopped _ status text (first _ []) refl is
unread_one files b a name one.Flow status text is = stopped _ status text (first _ []) refl is
unread_one files b a name one.List status text is = stopped _ status text (first _ []) refl is
unread_one files b a name (one.Report until) status text is = stopped _ status text (first _ []) refl is

-- ---- two files

pub viewed_two : (files : Option Files) (b a : ℕ) (name other : List ℕ) (view : Two) (bytes more : List ℕ) (status : ℕ) (text : List ℕ)
    → IsTextOf files (by_psyc name) bytes → IsTextOf files (file_of other (most_of_other view)) more
    → ViewOf (request_of_two name other view) (bytes ∷ more ∷ []) status text → Replies files b a (request_of_two name other view) status text
viewed_two files b a name other two.Diff bytes more status text is also views = viewed_all (bytes ∷ more ∷ []) status text (is, (also, tt)) views
viewed_two files b a name other two.Expect bytes more status text is also views = viewed_all (bytes ∷ more ∷ []) status text (is, (also, tt)) views
viewed_two files b a name other two.Dot bytes more status text is also views = viewed_all (bytes ∷ more ∷ []) status text (is, (also, tt)) views

pub unread_first : (files : Option Files) (b a : ℕ) (name other : List ℕ) (view : Two) (status : ℕ) (text : List ℕ)
    → IsUnread files b a (by_psyc name) status text → Replies files b a (request_of_two name other view) status text
unread_first files b a name other two.Diff status text is = stopped _ status text (first _ _) refl is
unread_first files b a name other two.Expect status text is = stopped _ status text (first _ _) refl is
unread_first files b a name other two.Dot status text is = stopped _ status text (first _ _) refl is

pub unread_second : (files : Option Files) (b a : ℕ) (name other : List ℕ) (view : Two) (bytes : List ℕ) (status : ℕ) (text : List ℕ)
    → IsTextOf files (by_psyc name) bytes → IsUnread files b a (file_of other (most_of_other view)) status text
    → Replies files b a (request_of_two name other view) status text
unread_second files b a name other two.Diff bytes status text is unread = stopped _ status text (behind _ bytes _ _ is (first _ [])) refl unread
unread_second files b a name other two.Expect bytes status text is unread = stopped _ status text (behind _ bytes _ _ is (first _ [])) refl unread
unread_second files b a name other two.Dot bytes status text is unread = stopped _ status text (behind _ bytes _ _ is (first _ [])) refl unread

-- ---- what came of a view

pub viewed_by_one : (files : Option Files) (b a : ℕ) (name : List ℕ) (view : One) (bytes : List ℕ) (came : Result View Memory) → IsTextOf files (file_of name (most_of_one view)) bytes
    → IfOk came (λ v. ViewOf (request_of_one name view) (bytes ∷ []) v.status v.text.items) → IfOk came (λ v. Replies files b a (request_of_one name view) v.status v.text.items)
viewed_by_one files b a name view bytes (Ok v) is views = viewed_one files b a name view bytes v.status v.text.items is views
viewed_by_one files b a name view bytes (Err none) is views = views

pub viewed_by_two : (files : Option Files) (b a : ℕ) (name other : List ℕ) (view : Two) (bytes more : List ℕ) (came : Result View Memory) → IsTextOf files (by_psyc name) bytes
    → IsTextOf files (file_of other (most_of_other view)) more → IfOk came (λ v. ViewOf (request_of_two name other view) (bytes ∷ more ∷ []) v.status v.text.items)
    → IfOk came (λ v. Replies files b a (request_of_two name other view) v.status v.text.items)
viewed_by_two files b a name other view bytes more (Ok v) is also views = viewed_two files b a name other view bytes more v.status v.text.items is also views
viewed_by_two files b a name other view bytes more (Err none) is also views = views
