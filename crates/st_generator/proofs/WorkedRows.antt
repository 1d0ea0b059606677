-- The shortest generated script, written out.
use Rattle.std.proofs.Common.{◌≡◌, ◌++◌, refl, codes}
use Rattle.std.specs.Fmt.{digits}
use Rattle.st_generator.specs.Script.{generated_script}

one_round : generated_script 1 ≡
    codes "dir \"/pub\" 0 0 755\ndir \"/sec\" 0 0 755\n" ++
    codes "file \"/pub/f0\" 0 0 644 \"x\"\nfile \"/pub/f1\" 0 0 644 \"x\"\nfile \"/pub/f2\" 0 0 644 \"x\"\nfile \"/pub/f3\" 0 0 644 \"x\"\nfile \"/pub/f4\" 0 0 644 \"x\"\n" ++
    codes "process g traced \"/bin/gen\" 1000 1000 \"/\"\n" ++
    codes "thread t1 in g\nput 64 \"/pub/f1\"\ncall access 64 4\nend\n" ++
    codes "thread t2 in g\nput 128 \"/pub/f2\"\ncall access 128 4\nend\n" ++
    codes "thread t3 in g\nput 192 \"/sec/f3\"\ncall access 192 4\nend\n" ++
    codes "thread t4 in g\nput 256 \"/pub/f4\"\ncall access 256 4\nend\n"
unfolding digits
one_round = refl
