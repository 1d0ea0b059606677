mod Indexed
