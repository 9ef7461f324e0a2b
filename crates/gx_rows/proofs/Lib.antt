mod Ties
